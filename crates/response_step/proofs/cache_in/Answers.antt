use mathlib.Core.Path.{◌≡◌, sym, ap, ◌∙◌}
use mathlib.Core.List.{List}
use Prim.Native.Nat.{ℕ, ◌+◌}
use native.Mathlib.Nat.{zero-add}
use native.Mathlib.Omega.{arith}
use lib.ListN.{length}
use Rattle.pieces.specs.Memory.{patch}
use Rattle.pieces.proofs.Memory.{patch-after}
use Rattle.response_step.proofs.cache_in.Goals as goal

pub returns : goal.returns
returns c =
    let h = c.args.head.now in
    let p = c.args.payload.now in
    let start : length h ≡ 0 + length h = sym (zero-add (length h)) in
    c.copy_in-2.ensures ∙ ap (λ (m : List ℕ). patch m (length h) p) c.copy_in.ensures
    ∙ ap (λ (i : ℕ). patch (patch c.args.piece.now 0 h) i p) start ∙ patch-after _ 0 h p (omega arith)
