-- The first element that passes a test, and whether all pass.
use Rattle.std.specs.Prelude.{ℕ, suc, Bool, true, cond, ◌&&◌, List, [], ◌∷◌}

-- The place of the first element that passes; the length where none does.
abbrev pub find {ℓ} : {A : Type ℓ} → (A → Bool) → List A → ℕ
find p [] = 0
find p (a ∷ rest) = cond (p a) 0 (suc (find p rest))

abbrev pub all {ℓ} : {A : Type ℓ} → (A → Bool) → List A → Bool
all p [] = true
all p (a ∷ rest) = p a && all p rest
