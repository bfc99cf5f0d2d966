-- What a line of hex says, as lists of bytes.
use Rattle.std.specs.Prelude.{ℕ, suc, ◌+◌, ◌-◌, ◌%◌, ◌≤◌, ◌≡◌, Bool, true, false, cond, ◌&&◌, ◌||◌, List, [], ◌∷◌, map, eqb, ltb, leb, length, take, drop, Option, Some, None, Result, Ok, Err}
use Rattle.line_input.specs.Sizes.{longest}
use Rattle.script_fields.specs.Fields.{is_hex, pairs_of}
use Rattle.hex_line.specs.declared.Why.{Why}
use Rattle.hex_line.specs.declared.Why.TheVariants as why

-- ---- the text of a line

-- A space, a tab or a carriage return.
unfoldable pub is_blank : ℕ → Bool
is_blank x = eqb x 32 || (eqb x 9 || eqb x 13)

-- How many bytes at the start pass a test.
unfoldable pub passing : (ℕ → Bool) → List ℕ → ℕ
passing test [] = 0
passing test (x ∷ xs) = cond (test x) (suc (passing test xs)) 0

-- Where the first byte stands that is no blank; the length where there is none.
abbrev pub start_of : List ℕ → ℕ
start_of line = passing is_blank line

-- Where the last byte ends that is no blank; 0 where there is none.
unfoldable pub end_of : List ℕ → ℕ
end_of [] = 0
end_of (x ∷ xs) = cond (is_blank x && eqb (end_of xs) 0) 0 (suc (end_of xs))

-- The line without the blanks at its ends.
unfoldable pub trimmed : List ℕ → List ℕ
trimmed line = take (end_of line - start_of line) (drop (start_of line) line)

-- The lower case of a letter; any other byte as it is.
unfoldable pub lower : ℕ → ℕ
lower x = cond (leb 65 x && leb x 90) (x + 32) x

-- ---- what it says

-- So many bytes, none in an empty line or a comment, or why it is unreadable.
abbrev pub Hex : Type 0
Hex = Result (Option ℕ) Why

-- A text that is empty or starts with `#` says nothing.
unfoldable pub is_skipped : List ℕ → Bool
is_skipped [] = true
is_skipped (x ∷ xs) = eqb x 35

-- Where the first byte stands that is no hex digit; the length where there is none.
abbrev pub bad_at : List ℕ → ℕ
bad_at text = passing is_hex text

-- What a text in lower case says, with `start` bytes before it in its line.
unfoldable pub digits_say : ℕ → List ℕ → Hex
digits_say start text =
    cond (ltb (bad_at text) (length text)) (Err (why.NoDigit (start + bad_at text + 1)))
    (cond (eqb (length text % 2) 1) (Err why.Odd) (Ok (Some (length (pairs_of text)))))

-- Two digits for each of 65,535 bytes.
abbrev pub most_digits : ℕ
most_digits = 131070

-- A line that is longer than the longest may be cut, so it is unreadable whatever it holds.
unfoldable pub hex_of : List ℕ → Hex
hex_of line =
    cond (ltb longest (length line)) (Err why.LongLine)
    (cond (is_skipped (trimmed line)) (Ok None)
    (cond (ltb most_digits (length (trimmed line))) (Err why.TooLong) (digits_say (start_of line) (map lower (trimmed line)))))

-- The bytes of a line, where it has any.
unfoldable pub bytes_of : List ℕ → List ℕ
bytes_of line = pairs_of (map lower (trimmed line))

-- ---- what the reader answers

-- The bytes, of 65,535 at most, stand at the start of the buffer.
abbrev pub Filled : Hex → List ℕ → List ℕ → Type 0
Filled r bytes out = (n : ℕ) → r ≡ Ok (Some n) → (n ≤ 65535) × (n ≤ length out) × (take n out ≡ bytes)

abbrev pub is_unread : Hex → Bool
is_unread (Ok None) = false
is_unread (Ok (Some n)) = false
is_unread (Err w) = true
