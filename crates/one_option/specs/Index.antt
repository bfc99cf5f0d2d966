-- What stands at an index of the message, counted from its start.
use Rattle.std.specs.Prelude.{ℕ, ◌+◌, List, drop, Some, None, Ok, Err}
use Rattle.message_format.specs.Format.{Next, an_option, next_in}

abbrev pub counted : ℕ → Next → Next
counted at (Ok (Some o)) = an_option o.number (at + o.from) (at + o.to)
counted at (Ok None) = Ok None
counted at (Err e) = Err e

abbrev pub next_at : List ℕ → ℕ → ℕ → Next
next_at bytes at before = counted at (next_in before (drop at bytes))
