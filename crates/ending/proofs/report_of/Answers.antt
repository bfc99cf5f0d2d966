use mathlib.Core.Path.{refl, ap}
use mathlib.Core.List.{[], ◌∷◌}
use Prim.Native.Nat.{ℕ, ◌+◌}
use Rattle.ending.specs.Ending.{report_text}
use Rattle.ending.proofs.report_of.Goals as goal

pub returns : goal.returns
unfolding report_text
returns c = record { value = ap (λ (n : ℕ). (48 + n) ∷ 10 ∷ []) c.exit_code.ensures.0; value_2 = refl }
