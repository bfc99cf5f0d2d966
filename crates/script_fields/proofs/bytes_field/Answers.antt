use mathlib.Core.Path.{refl, sym, ◌∙◌}
use native.Mathlib.Omega.{arith}
use Rattle.script_fields.proofs.Pairs.{dot-bytes, no_bytes, pairs-bytes, no_pairs}
use Rattle.script_fields.proofs.bytes_field.Goals as goal

pub returns-then-is_mark : goal.returns-then-is_mark
returns-then-is_mark c = dot-bytes _ _ _ c.requires (sym c.is_mark.ensures ∙ c.if-is_mark.true)

pub returns-then-is_empty : goal.returns-then-is_empty
returns-then-is_empty c = no_bytes _ (sym c.is_mark.ensures ∙ c.if-is_mark.false) (grind arith)

pub returns-in_err-n : goal.returns-in_err-n
returns-in_err-n c =
    rw c.from_residual.ensures
    (no_pairs _ (sym c.is_mark.ensures ∙ c.if-is_mark.false) (grind arith) c.in_err-n.ensures.value)

pub overflow_add-result : goal.overflow_add-result
overflow_add-result c = omega (arith, c.in_ok-n.ensures.filled _ refl)

pub returns : goal.returns
returns c =
    pairs-bytes _ (sym c.is_mark.ensures ∙ c.if-is_mark.false) (grind arith)
    _ _ _ _ _ c.requires c.in_ok-n.ensures.value (c.in_ok-n.ensures.filled _ refl)
