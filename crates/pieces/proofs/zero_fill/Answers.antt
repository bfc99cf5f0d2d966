use Rattle.std.proofs.Common.{arith, length-take, length-drop}
use Rattle.std.proofs.lemmas.List.{length-replicate}
use Rattle.pieces.proofs.Memory.{patch_back}
use Rattle.pieces.proofs.zero_fill.Goals as goal

pub returns : goal.returns
returns c = grind (arith, patch_back, c.fill.ensures.after (λ y e. e), length-take, length-drop, length-replicate)
