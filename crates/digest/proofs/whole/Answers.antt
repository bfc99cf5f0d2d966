use Rattle.std.proofs.Common.{add-one}
use Rattle.digest.proofs.whole.Goals as goal

pub loop-j-preserved : goal.loop-j-preserved
loop-j-preserved c = rw (add-one, c.stir-d.ensures, c.word.ensures.is, c.loop-j.invariant)
