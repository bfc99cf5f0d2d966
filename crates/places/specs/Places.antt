-- Document 01, "Table and clock": the place of a key as a value, and the entry that a call on it starts from.
use Rattle.std.specs.Prelude.{ℕ, List, Option, Some, None as Nowhere}
use Rattle.entries.specs.declared.Entry.{Entry}
use Rattle.keys.specs.Keys.{Name, stored}
use Rattle.entries.specs.Entries.{start_from}
use Rattle.block_table.specs.Table.{at}
use Rattle.key_place.specs.Place.{row_index, place}
use Rattle.places.specs.declared.Place.{Place}
use Rattle.places.specs.declared.Place.TheVariants.{At, None}

-- An index of the row as a place.
abbrev pub standing : Option ℕ → Place
standing (Some i) = At i
standing Nowhere = None

unfoldable pub place_of : Name → List Entry → Place
place_of k l = standing (row_index (place k l))

-- The entry that a call on the key starts from.
unfoldable pub opened : Name → List Entry → Entry
opened k l = start_from (stored k) (at l (place k l))
