use mathlib.Core.Path.{refl}
use Rattle.request_block1.specs.Block1.{not_next}
use Rattle.request_block1.proofs.not_next.Goals as goal

pub returns : goal.returns
unfolding not_next
returns c = rw c.start.ensures.0 refl
