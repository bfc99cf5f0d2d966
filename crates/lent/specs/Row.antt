-- What a walk over a row has seen, one entry at a time.
use Rattle.std.specs.Prelude.{ℕ, Bool, cond, List, Option, Some, None}
use Rattle.std.specs.Option.{option_or}
use Rattle.entries.specs.declared.Entry.{Entry}
use Rattle.entries.specs.Entries.{holds, unused}
use Rattle.lent.specs.declared.Seen.{Seen}

-- The first that passes of the entries up to i, from the first that passes of those before it.
abbrev pub first_of : Option ℕ → ℕ → Bool → Option ℕ
first_of found i passes = option_or found (cond passes (Some i) None)

abbrev pub seen_next : Seen → ℕ → Entry → List ℕ → Seen
seen_next s i e k = record { found = first_of s.found i (holds k e); free = first_of s.free i (unused e) }
