-- Unsigned numbers in a fixed number of bytes, big-endian.
use Rattle.std.specs.Prelude.{ℕ, zero, suc, ◌/◌, ◌%◌, List, [], ◌∷◌, ◌++◌}
use Rattle.pieces.specs.Memory.{part}
use Rattle.block_option.specs.Uint.{uint}

-- n in k bytes, the most significant first. Of a number that they do not hold, the rest is lost.
unfoldable pub in_bytes : ℕ → ℕ → List ℕ
in_bytes zero n = []
in_bytes (suc k) n = in_bytes k (n / 256) ++ (n % 256 ∷ [])

-- The number that the k bytes from index `at` on spell.
unfoldable pub number_at : List ℕ → ℕ → ℕ → ℕ
number_at l at k = uint (part l at k)
