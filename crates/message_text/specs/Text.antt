-- What is said of a line of hex, as a list of bytes: what its bytes mean (RFC 7252), by the fields of a line, or why it is unreadable.
use Rattle.std.specs.Prelude.{ℕ, List, [], ◌∷◌, ◌++◌, Some, None, Ok, Err}
use Rattle.message_format.specs.Format.{Message, Meaning, malformed, means, meaning_of}
use Rattle.script_text.specs.Text.{decimal}
use Rattle.hex_line.specs.Line.{Hex, hex_of, bytes_of}
use Rattle.hex_line.specs.declared.Why.{Why}
use Rattle.hex_line.specs.declared.Why.TheVariants as why
use Rattle.head_text.specs.Head.{head_text}
use Rattle.parts_text.specs.Parts.{parts_text}

-- `N refused-11 - - - - -`, and a line end.
unfoldable pub refused_text : ℕ → List ℕ
refused_text number =
    decimal number ++ (32 ∷ 114 ∷ 101 ∷ 102 ∷ 117 ∷ 115 ∷ 101 ∷ 100 ∷ 45 ∷ 49 ∷ 49 ∷ 32 ∷ 45 ∷ 32 ∷ 45 ∷ 32 ∷ 45 ∷ 32 ∷ 45 ∷ 32 ∷ 45 ∷ 10 ∷ [])

-- `N unreadable - - - - -`, and a line end.
unfoldable pub unreadable_text : ℕ → List ℕ
unreadable_text number =
    decimal number ++ (32 ∷ 117 ∷ 110 ∷ 114 ∷ 101 ∷ 97 ∷ 100 ∷ 97 ∷ 98 ∷ 108 ∷ 101 ∷ 32 ∷ 45 ∷ 32 ∷ 45 ∷ 32 ∷ 45 ∷ 32 ∷ 45 ∷ 32 ∷ 45 ∷ 10 ∷ [])

-- `N type code id token options payload`, and a line end.
unfoldable pub message_text : ℕ → Message → List ℕ
message_text number m = head_text number m.message_type m.code m.message_id ++ parts_text m

abbrev pub meaning_text : ℕ → Meaning → List ℕ
meaning_text number malformed = refused_text number
meaning_text number (means m) = message_text number m

-- What standard output gets for a line: nothing where it is skipped. The bytes are those that its hex says.
abbrev pub shown_text : ℕ → Hex → List ℕ → List ℕ
shown_text number (Ok None) bytes = []
shown_text number (Ok (Some n)) bytes = meaning_text number (meaning_of bytes)
shown_text number (Err w) bytes = unreadable_text number

unfoldable pub line_text : ℕ → List ℕ → List ℕ
line_text number line = shown_text number (hex_of line) (bytes_of line)

-- `coapdump: line N`, and why it is unreadable.
unfoldable pub because : ℕ → List ℕ → List ℕ
because number why = (99 ∷ 111 ∷ 97 ∷ 112 ∷ 100 ∷ 117 ∷ 109 ∷ 112 ∷ 58 ∷ 32 ∷ 108 ∷ 105 ∷ 110 ∷ 101 ∷ 32 ∷ []) ++ (decimal number ++ why)

-- `: longer than 200000 characters`, and a line end.
abbrev pub long_line : List ℕ
long_line =
    58 ∷ 32 ∷ 108 ∷ 111 ∷ 110 ∷ 103 ∷ 101 ∷ 114 ∷ 32 ∷ 116 ∷ 104 ∷ 97 ∷ 110 ∷ 32 ∷ 50 ∷ 48 ∷ 48 ∷ 48 ∷ 48 ∷ 48 ∷ 32 ∷ 99 ∷ 104 ∷ 97 ∷ 114 ∷ 97 ∷ 99 ∷ 116 ∷ 101 ∷ 114 ∷ 115 ∷ 10 ∷ []

-- `: longer than 65535 bytes`, and a line end.
abbrev pub longer : List ℕ
longer =
    58 ∷ 32 ∷ 108 ∷ 111 ∷ 110 ∷ 103 ∷ 101 ∷ 114 ∷ 32 ∷ 116 ∷ 104 ∷ 97 ∷ 110 ∷ 32 ∷ 54 ∷ 53 ∷ 53 ∷ 51 ∷ 53 ∷ 32 ∷ 98 ∷ 121 ∷ 116 ∷ 101 ∷ 115 ∷ 10 ∷ []

-- `: character `, and behind its number ` is no hex digit`, and a line end.
abbrev pub character : List ℕ
character = 58 ∷ 32 ∷ 99 ∷ 104 ∷ 97 ∷ 114 ∷ 97 ∷ 99 ∷ 116 ∷ 101 ∷ 114 ∷ 32 ∷ []

abbrev pub no_digit : List ℕ
no_digit = 32 ∷ 105 ∷ 115 ∷ 32 ∷ 110 ∷ 111 ∷ 32 ∷ 104 ∷ 101 ∷ 120 ∷ 32 ∷ 100 ∷ 105 ∷ 103 ∷ 105 ∷ 116 ∷ 10 ∷ []

-- `: an odd number of digits`, and a line end.
abbrev pub odd_number : List ℕ
odd_number =
    58 ∷ 32 ∷ 97 ∷ 110 ∷ 32 ∷ 111 ∷ 100 ∷ 100 ∷ 32 ∷ 110 ∷ 117 ∷ 109 ∷ 98 ∷ 101 ∷ 114 ∷ 32 ∷ 111 ∷ 102 ∷ 32 ∷ 100 ∷ 105 ∷ 103 ∷ 105 ∷ 116 ∷ 115 ∷ 10 ∷ []

abbrev pub why_text : ℕ → Why → List ℕ
why_text number why.LongLine = because number long_line
why_text number why.TooLong = because number longer
why_text number (why.NoDigit i) = because number character ++ (decimal i ++ no_digit)
why_text number why.Odd = because number odd_number

-- What standard error gets for a line: nothing where it is readable or skipped.
abbrev pub reason_text : ℕ → Hex → List ℕ
reason_text number (Ok said) = []
reason_text number (Err w) = why_text number w
