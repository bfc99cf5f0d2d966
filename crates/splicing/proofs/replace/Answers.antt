use mathlib.Core.Path.{ap, ◌∙◌}
use mathlib.Core.List.{List}
use Prim.Native.Nat.{ℕ}
use native.Mathlib.Omega.{arith}
use Rattle.pieces.specs.Memory.{patch}
use Rattle.splicing.proofs.Splicing.{splice-put}
use Rattle.splicing.proofs.replace.Goals as goal

pub returns : goal.returns
returns c =
    c.copy_in.ensures ∙ ap (λ (l : List ℕ). patch l c.args.at c.args.payload.now) c.make_room.ensures
    ∙ splice-put c.args.piece.now c.args.len c.args.at c.args.size c.args.payload.now (omega arith) (omega arith)
