-- A number that equal keys have in common. What it is does not matter: no contract of the handler's two calls, nor of an export, cites it.
use Rattle.std.specs.Prelude.{◌≡◌, ℕ, zero, suc, ◌+◌, ◌*◌, ◌/◌, ◌%◌, ◌^◌, ◌<◌, List, length, slice_index}

-- Some bytes from i on as one number, the first the lowest; past the end they are 0.
abbrev pub number_at : ℕ → List ℕ → ℕ → ℕ
number_at zero k i = 0
number_at (suc count) k i = slice_index k i + number_at count k (i + 1) * 256

abbrev pub BytesAt : ℕ → List ℕ → ℕ → Type 0
BytesAt zero k i = Unit {0}
BytesAt (suc count) k i = (slice_index k i < 256) × BytesAt count k (i + 1)

-- What is known of some bytes that are read so.
pub record Read (count : ℕ) (k : List ℕ) (i r : ℕ) : Type 0 where
  pub is : r ≡ number_at count k i
  pub small : r < 256 ^ count
  pub bytes : BytesAt count k i

-- The 64 bits turned left by 7, and one more word stirred in.
abbrev pub turn : ℕ → ℕ
turn d = d % 144115188075855872 * 128 + d / 144115188075855872

unfoldable pub stirred : ℕ → ℕ → ℕ
stirred d w = (turn d + w) % 2 ^ 64

abbrev pub stirs : List ℕ → ℕ → ℕ
stirs k zero = 0
stirs k (suc j) = stirred (stirs k j) (number_at 8 k (j * 8))

-- Of the key alone, and not of the bytes that stand after it where it is stored: so equal keys have equal digests.
unfoldable pub digest_of : List ℕ → ℕ
digest_of k = stirred (stirs k (length k / 8)) (number_at 8 k (length k / 8 * 8))
