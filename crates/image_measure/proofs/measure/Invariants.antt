use Rattle.image_measure.proofs.Turns.{Measured}
use Rattle.image_measure.proofs.measure.Given as goal

abbrev pub invariant-loop-e : goal.invariant-loop-e
invariant-loop-e l = Measured l.fn.entries l.rows l.upload l.response l.e-index
