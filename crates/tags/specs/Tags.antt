-- A key's tag, of its digest, and how many tags of a row are equal. What a tag is does not matter: no contract of the handler's two calls, nor of an export, cites it.
use Rattle.std.specs.Prelude.{ℕ, ◌+◌, ◌*◌, ◌/◌, ◌%◌, List, [], ◌∷◌, cond, eqb}

-- A digest as an odd number of 32 bits.
unfoldable pub folded : ℕ → ℕ
folded d = (d / 4294967296 * 1812433253 + d % 4294967296 * 974711381) / 33554432 % 2147483648 * 2 + 1

-- How often d stands in a row, and how many pairs of places of two rows have equal numbers.
abbrev pub times : ℕ → List ℕ → ℕ
times d [] = 0
times d (x ∷ xs) = cond (eqb x d) 1 0 + times d xs

abbrev pub pairs : List ℕ → List ℕ → ℕ
pairs [] ys = 0
pairs (x ∷ xs) ys = times x ys + pairs xs ys
