-- What the options leave of the output's room: none where they have no encoding or do not fit.
use Rattle.std.specs.Prelude.{ℕ, ◌+◌, ◌-◌, Bool, cond, ◌&&◌, List, leb, length, Option, Some, None}
use Rattle.message_format.specs.Format.{option_head, options_bytes, options_ok}
use Rattle.message_measure.specs.Given.{options_from, describes}

-- How many bytes an option takes.
abbrev pub option_length : ℕ → ℕ → ℕ
option_length delta len = length (option_head delta len) + len

-- One option, after one of the number `before`, has an encoding, has its bytes among so many values, and fits the room.
unfoldable pub option_fits : ℕ → ℕ → ℕ → ℕ → ℕ → Bool
option_fits room before number len values =
    leb before number && leb number 65535 && leb len 65804 && leb len values && leb (option_length (number - before) len) room

-- What it leaves of the room.
abbrev pub room_after_option : ℕ → ℕ → ℕ → ℕ → ℕ → Option ℕ
room_after_option room before number len values =
    cond (option_fits room before number len values) (Some (room - option_length (number - before) len)) None

-- All options, the first after one of the number `before`, have an encoding and fit the room.
unfoldable pub options_fit : ℕ → ℕ → List ℕ → List ℕ → List ℕ → Bool
options_fit before room numbers lengths values =
    describes numbers lengths values
    && options_ok before (options_from numbers lengths values)
    && leb (length (options_bytes before (options_from numbers lengths values))) room

-- What they leave of the room.
abbrev pub room_after : ℕ → ℕ → List ℕ → List ℕ → List ℕ → Option ℕ
room_after before room numbers lengths values =
    cond (options_fit before room numbers lengths values) (Some (room - length (options_bytes before (options_from numbers lengths values)))) None
