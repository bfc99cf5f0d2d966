-- Lent memory as a list of bytes, and its pieces.
use Rattle.std.specs.Prelude.{ℕ, ◌+◌, ◌-◌, ◌*◌, ◌≤◌, ◌≡◌, cond, ◌&&◌, List, [], ◌++◌, leb, length, take, drop}

-- The memory with these bytes from index `at` on, and all else as it was.
unfoldable pub patch : List ℕ → ℕ → List ℕ → List ℕ
patch m at bytes = take at m ++ (bytes ++ drop (at + length bytes) m)

-- The n bytes of the memory from index `at` on.
unfoldable pub part : List ℕ → ℕ → ℕ → List ℕ
part m at n = take n (drop at m)

-- The bytes from one index up to another; none where they aren't all there.
unfoldable pub within : List ℕ → ℕ → ℕ → List ℕ
within m from to = cond (leb from to && leb to (length m)) (part m from (to - from)) []

-- These bytes were written at `at`, where there was room for them, and nothing else; the next go to r.
pub record Put (m : List ℕ) (at : ℕ) (bytes m' : List ℕ) (r : ℕ) : Type 0 where
  pub room : at + length bytes ≤ length m
  pub is : m' ≡ patch m at bytes
  pub to : r ≡ at + length bytes

-- Piece i of a memory of pieces of u bytes each, and the memory with another piece there.
unfoldable pub piece_of : ℕ → ℕ → List ℕ → List ℕ
piece_of u i m = part m (i * u) u

unfoldable pub put_piece : ℕ → ℕ → List ℕ → List ℕ → List ℕ
put_piece u i piece m = patch m (i * u) piece
