-- The head of a line. Assumes nothing.
use mathlib.Core.Path.{◌≡◌, ap}
use mathlib.Core.List.{List, [], ◌∷◌, ◌++◌, append_assoc}
use Prim.Native.Nat.{ℕ}
use Rattle.script_text.specs.Text.{decimal}
use Rattle.head_text.specs.Head.{type_text, code_text, head_text}

-- the head of a line, by its fields
pub head-is : (number kind code id : ℕ) {t c : List ℕ} {i : ℕ} → t ≡ 32 ∷ type_text kind ++ (32 ∷ []) → c ≡ code_text code ++ (32 ∷ []) → i ≡ id
    → decimal number ++ (t ++ (c ++ (decimal i ++ (32 ∷ [])))) ≡ head_text number kind code id
unfolding code_text head_text
head-is number kind code id p q r =
    let rest : List ℕ = code_text code ++ (32 ∷ decimal id ++ (32 ∷ [])) in
    rw (p, q, r) (ap (λ (l : List ℕ). decimal number ++ (32 ∷ l)) (append_assoc (type_text kind) (32 ∷ []) rest))
