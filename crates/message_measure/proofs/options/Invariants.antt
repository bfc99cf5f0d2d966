use Rattle.message_measure.proofs.Measures.{Measured}
use lib.ListN.{length}
use Rattle.message_measure.proofs.options.Given as goal

abbrev pub invariant-loop-number : goal.invariant-loop-number
invariant-loop-number l = Measured l.room l.numbers l.lengths l.values l.left l.before l.at (length l.yielded)
