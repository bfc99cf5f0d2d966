-- The first fields of a message's line, as lists of bytes.
use Rattle.std.specs.Prelude.{ℕ, ◌+◌, ◌/◌, ◌%◌, cond, List, [], ◌∷◌, ◌++◌, eqb}
use Rattle.script_text.specs.Text.{decimal}

-- `CON`, `NON`, `ACK` or `RST`.
unfoldable pub type_text : ℕ → List ℕ
type_text kind =
    cond (eqb kind 0) (67 ∷ 79 ∷ 78 ∷ [])
    (cond (eqb kind 1) (78 ∷ 79 ∷ 78 ∷ [])
    (cond (eqb kind 2) (65 ∷ 67 ∷ 75 ∷ [])
    (82 ∷ 83 ∷ 84 ∷ [])))

-- `c.dd`: the class, a dot, and the detail in two digits.
unfoldable pub code_text : ℕ → List ℕ
code_text code = (48 + code / 32) ∷ 46 ∷ (48 + code % 32 / 10) ∷ (48 + code % 32 % 10) ∷ []

-- `N type code id`, each with a space behind it.
unfoldable pub head_text : ℕ → ℕ → ℕ → ℕ → List ℕ
head_text number kind code id = decimal number ++ (32 ∷ type_text kind ++ (32 ∷ code_text code ++ (32 ∷ decimal id ++ (32 ∷ []))))
