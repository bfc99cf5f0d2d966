-- Unsigned integers as options hold them: document 01's "big-endian", and RFC 7252, section 3.2.
use Rattle.std.specs.Prelude.{ℕ, zero, suc, ◌+◌, ◌*◌, ◌/◌, ◌%◌, ◌^◌, ◌<◌, cond, List, [], ◌∷◌, ◌++◌, eqb, length}

-- The number that bytes spell, the most significant first. No byte spells 0, and leading zero bytes add nothing.
unfoldable pub uint : List ℕ → ℕ
uint [] = 0
uint (b ∷ rest) = b * 256 ^ length rest + uint rest

abbrev pub Bytes : List ℕ → Type 0
Bytes [] = Unit {0}
Bytes (b ∷ rest) = (b < 256) × Bytes rest

-- The "shortest big-endian form" of a number that takes at most so many bytes: none for 0.
unfoldable pub shortest : ℕ → ℕ → List ℕ
shortest zero scalar = []
shortest (suc most) scalar = cond (eqb scalar 0) [] (shortest most (scalar / 256) ++ (scalar % 256 ∷ []))
