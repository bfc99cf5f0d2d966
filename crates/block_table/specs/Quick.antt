-- How the code tells a row's keys apart, by tags, and one entry from the others; and how it changes a table. No contract of the handler's two calls, nor of an export, cites this.
use Rattle.std.specs.Prelude.{ℕ, ◌+◌, Bool, not, List, [], ◌∷◌, set}
use Rattle.entries.specs.declared.Entry.{Entry}
use Rattle.keys.specs.Lists.{all}
use Rattle.entries.specs.Entries.{clash}
use Rattle.entries.specs.Quick.{tag_of}
use Rattle.block_table.specs.declared.Table.{Table}

abbrev pub tags_from : ℕ → List Entry → List ℕ
tags_from i [] = []
tags_from i (e ∷ rest) = tag_of e i ∷ tags_from (i + 1) rest

abbrev pub alone : Entry → List Entry → Bool
alone e rest = all (λ f. not (clash e f)) rest

-- A changed table: this clock, this figure, whatever the row holds, and this row with one entry put in its place.
abbrev pub figured : ℕ → ℕ → List Entry → ℕ → Entry → Table
figured clock n row i e = record { clock = clock; held = n; entries = set row i e }
