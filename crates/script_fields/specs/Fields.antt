-- The fields of a script line, as lists of bytes: which texts are read, and what each says. What a text says (`value`, `pairs_of`,
-- `bytes_of`, `option_bytes`) counts only where it is read (`is_number`, `is_pairs`, `is_bytes`, `is_option`).
use Rattle.std.specs.Prelude.{ℕ, ◌+◌, ◌-◌, ◌*◌, ◌^◌, ◌≤◌, ◌≡◌, Bool, true, false, cond, not, ◌&&◌, ◌||◌, List, [], ◌∷◌, ◌++◌, eqb, ltb, leb, length, get_or, take}
use Rattle.std.specs.Prelude.{Option, Some, None, is_some, unwrap_or, MatchOption}

-- ---- decimals

unfoldable pub is_digit : ℕ → Bool
is_digit x = leb 48 x && leb x 57

unfoldable pub all_digits : List ℕ → Bool
all_digits [] = true
all_digits (x ∷ xs) = is_digit x && all_digits xs

-- The number that digits say after those that say `sum`.
unfoldable pub value_from : ℕ → List ℕ → ℕ
value_from sum [] = sum
value_from sum (x ∷ xs) = value_from (sum * 10 + (x - 48)) xs

unfoldable pub value : List ℕ → ℕ
value text = value_from 0 text

-- At least one digit, digits alone, and a number below 2^64. Leading zeros are allowed.
unfoldable pub is_number : List ℕ → Bool
is_number text = ltb 0 (length text) && (all_digits text && ltb (value text) (2 ^ 64))

unfoldable pub number_of : List ℕ → Option ℕ
number_of text = cond (is_number text) (Some (value text)) None

-- ---- bytes in hex

-- The number of a lower-case hex digit.
unfoldable pub nibble : ℕ → Option ℕ
nibble x = cond (leb 48 x && leb x 57) (Some (x - 48)) (cond (leb 97 x && leb x 102) (Some (x - 87)) None)

unfoldable pub is_hex : ℕ → Bool
is_hex x = is_some (nibble x)

-- 16 for a byte that is no digit, which no text that is read has.
unfoldable pub digit_value : ℕ → ℕ
digit_value x = unwrap_or (nibble x) 16

unfoldable pub is_pairs : List ℕ → Bool
is_pairs [] = true
is_pairs (x ∷ []) = false
is_pairs (x ∷ y ∷ rest) = is_hex x && (is_hex y && is_pairs rest)

unfoldable pub pairs_of : List ℕ → List ℕ
pairs_of [] = []
pairs_of (x ∷ []) = []
pairs_of (x ∷ y ∷ rest) = (digit_value x * 16 + digit_value y) ∷ pairs_of rest

-- The text is this one byte.
unfoldable pub is_mark : List ℕ → ℕ → Bool
is_mark text mark = eqb (length text) 1 && eqb (get_or text 0 0) mark

-- A dot is zero bytes; anything else is hex digits in pairs, at least one.
unfoldable pub is_bytes : List ℕ → Bool
is_bytes text = is_mark text 46 || (ltb 0 (length text) && is_pairs text)

unfoldable pub bytes_of : List ℕ → List ℕ
bytes_of text = cond (is_mark text 46) [] (pairs_of text)

-- A dash is an absent option.
unfoldable pub is_given : List ℕ → Bool
is_given text = not (is_mark text 45)

unfoldable pub is_option : List ℕ → Bool
is_option text = is_mark text 45 || is_bytes text

unfoldable pub option_bytes : List ℕ → List ℕ
option_bytes text = cond (is_mark text 45) [] (bytes_of text)

-- ---- what the readers answer

unfoldable pub pairs_decoded : List ℕ → Option ℕ
pairs_decoded text = cond (is_pairs text) (Some (length (pairs_of text))) None

-- The bytes stand at the start of the buffer, where the field is read.
abbrev pub Filled : Option ℕ → List ℕ → List ℕ → Type 0
Filled r bytes out = (n : ℕ) → r ≡ Some n → (n ≤ length out) × (take n out ≡ bytes)

-- What a text says went to the buffer m from `at` on, up to n, in half of the text's room. What stood before is as it was.
pub record Decodes (text m : List ℕ) (at : ℕ) (bytes m' : List ℕ) (n : ℕ) : Type 0 where
  pub from : at ≤ length m
  pub to : n ≡ at + length bytes
  pub within : n ≤ length m'
  pub half : 2 * n ≤ 2 * at + length text
  pub is : take n m' ≡ take at m ++ bytes

-- Where the text is good, it is decoded.
abbrev pub Reads : Option ℕ → Bool → List ℕ → List ℕ → ℕ → List ℕ → List ℕ → Type 0
Reads r good text m at bytes m' = MatchOption r (good ≡ false) (λ n. (good ≡ true) × Decodes text m at bytes m' n)
