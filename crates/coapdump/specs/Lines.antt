-- The lines of a text that have ended, and what is said of a line.
use Rattle.std.specs.Prelude.{◌≡◌, ℕ, ◌+◌, ◌%◌, ◌^◌, ◌≤◌, cond, List, [], ◌∷◌, ◌++◌, length, take, drop}
use Rattle.script_cut.specs.Cut.{cut_at}
use Rattle.hex_line.specs.Line.{most_digits, hex_of, is_unread}
use Rattle.message_text.specs.Text.{line_text, reason_text}

-- The buffers have room for the text of the longest line, its bytes, and what is said of it.
pub record Room (digits bytes out : List ℕ) : Type 0 where
  pub for-digits : most_digits ≤ length digits
  pub for-bytes : 65535 ≤ length bytes
  pub for-output : 524428 ≤ length out

-- What standard output gets for a line, and behind it what standard error gets.
unfoldable pub said_of : ℕ → List ℕ → List ℕ
said_of number line = line_text number line ++ reason_text number (hex_of line)

-- It stands at the start of the output.
abbrev pub Says : ℕ → List ℕ → List ℕ → Type 0
Says number line out = take (length (said_of number line)) out ≡ said_of number line

-- How many lines are unreadable.
unfoldable pub unread_in : List (List ℕ) → ℕ
unread_in [] = 0
unread_in (line ∷ lines) = cond (is_unread (hex_of line)) 1 0 + unread_in lines

-- Cut at its line ends, the text is these lines and the rest, from an index on; the lines, and those that are unreadable, are counted on
-- from two numbers, in 64 bits.
pub record Ended (number unread : ℕ) (text : List ℕ) (count bad from : ℕ) : Type 0 where
  pub lines : List (List ℕ)
  pub cut : cut_at 10 text ≡ lines ++ (drop from text ∷ [])
  pub within : from ≤ length text
  pub counted : count ≡ (number + length lines) % 2 ^ 64
  pub missed : bad ≡ (unread + unread_in lines) % 2 ^ 64
