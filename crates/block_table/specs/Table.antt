-- Document 01, "Table and clock", of the row and the table: the limits of a table, and a fresh table; and document 02's figure of the bytes held.
use Rattle.std.specs.Prelude.{ℕ, Bool, true, not, ◌&&◌, List, [], ◌∷◌, get_or, set, replicate, eqb}
use Rattle.config.specs.declared.Config.{Config}
use Rattle.entries.specs.declared.Entry.{Entry}
use Rattle.block_table.specs.declared.Table.{Table}
use Rattle.keys.specs.Lists.{all}
use Rattle.entries.specs.Entries.{free, entry_ok, clash}
use Rattle.entries.specs.Held.{held}

-- ---- Limits (refusal 1)

unfoldable pub distinct : List Entry → Bool
distinct [] = true
distinct (e ∷ rest) = all (λ f. not (clash e f)) rest && distinct rest

-- "A table with another figure is off the limits."
unfoldable pub figure_ok : Table → Bool
figure_ok t = eqb t.held (held t.entries)

unfoldable pub table_ok : Config → Table → Bool
table_ok c t = all (entry_ok c t.clock) t.entries && figure_ok t && distinct t.entries

-- ---- An entry of the row, and a table

abbrev pub at : List Entry → ℕ → Entry
at l i = get_or l i free

-- The table with this clock and this row, and with the figure that a walk over the row gives: a fresh table and those that calls change are made here.
abbrev pub table_of : ℕ → List Entry → Table
table_of clock row = record { clock = clock; held = held row; entries = row }

-- A changed table: this clock, and this row with one entry put in its place.
abbrev pub table_with : ℕ → List Entry → ℕ → Entry → Table
table_with clock row i e = table_of clock (set row i e)

-- "A fresh table is empty with clock 0."
abbrev pub fresh_table : Table
fresh_table = table_of 0 (replicate 16 free)
