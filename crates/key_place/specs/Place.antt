-- Document 01, "Table and clock": the place of a key in a row that is swept.
use Rattle.std.specs.Prelude.{ℕ, cond, List, ltb, Option, Some, None}
use Rattle.keys.specs.Lists.{find}
use Rattle.keys.specs.Keys.{Name}
use Rattle.entries.specs.declared.Entry.{Entry}
use Rattle.entries.specs.Entries.{holds, unused}

-- What is found in a row, as an index of its sixteen entries.
abbrev pub row_index : ℕ → Option ℕ
row_index i = cond (ltb i 16) (Some i) None

-- The index of its own entry; else "a new key takes the lowest free entry"; else 16, the length of the row.
unfoldable pub place : Name → List Entry → ℕ
place k l = cond (ltb (find (holds k) l) 16) (find (holds k) l) (find unused l)
