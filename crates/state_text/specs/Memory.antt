-- The number of a memory, and the numbers of both as a line has them.
use Rattle.std.specs.Prelude.{ℕ, ◌+◌, ◌*◌, ◌/◌, ◌%◌, ◌^◌, [], ◌∷◌, ◌++◌, bit_xor}
use Rattle.script_cut.specs.Cut.{Bytes}
use Rattle.script_text.specs.Text.{hex}

-- Times FNV's prime, modulo 2^64.
abbrev pub times_prime : ℕ → ℕ
times_prime h = h * (2 ^ 40 + 435) % 2 ^ 64

-- The 64-bit FNV-1a from h on: each byte is taken in by xor, and then comes the prime.
unfoldable pub fnv_from : ℕ → Bytes → ℕ
fnv_from h [] = h
fnv_from h (b ∷ bs) = fnv_from (times_prime (bit_xor h b)) bs

-- The 64-bit FNV-1a: it starts from FNV's offset basis.
unfoldable pub fnv_of : Bytes → ℕ
fnv_of bytes = fnv_from 14695981039346656037 bytes

-- The eight bytes of a number below 2^64, the highest first.
abbrev pub word_bytes : ℕ → Bytes
word_bytes x =
    x / 2 ^ 56 % 256 ∷ x / 2 ^ 48 % 256 ∷ x / 2 ^ 40 % 256 ∷ x / 2 ^ 32 % 256 ∷ x / 2 ^ 24 % 256 ∷ x / 2 ^ 16 % 256 ∷ x / 2 ^ 8 % 256 ∷ x % 256 ∷ []

-- Sixteen hex digits.
unfoldable pub word_text : ℕ → Bytes
word_text x = hex (word_bytes x)

-- UPLOAD and RESPONSE, and the line's end.
unfoldable pub memories_text : Bytes → Bytes → Bytes
memories_text upload response = word_text (fnv_of upload) ++ (32 ∷ word_text (fnv_of response) ++ (10 ∷ []))
