-- The line that shows the state: `N state CLOCK HELD ENTRIES UPLOAD RESPONSE`.
use Rattle.std.specs.Prelude.{ℕ, ◌+◌, Bool, cond, List, [], ◌∷◌, ◌++◌}
use Rattle.script_cut.specs.Cut.{Bytes}
use Rattle.script_text.specs.Text.{decimal, none}
use Rattle.entries.specs.declared.Entry.{Entry}
use Rattle.block_table.specs.declared.Table.{Table}
use Rattle.entry_text.specs.Entry.{entry_text}
use Rattle.state_text.specs.Memory.{memories_text}

-- ---- the entries

-- The texts of the entries in use, of those from index i on.
unfoldable pub used_texts : ℕ → List Entry → List Bytes
used_texts i [] = []
used_texts i (e ∷ es) = cond e.used (entry_text i e ∷ used_texts (i + 1) es) (used_texts (i + 1) es)

-- Texts with a semicolon before each.
unfoldable pub continued : List Bytes → Bytes
continued [] = []
continued (t ∷ ts) = 59 ∷ t ++ continued ts

-- Texts with a semicolon between each two; a dash where there are none.
unfoldable pub joined : List Bytes → Bytes
joined [] = none
joined (t ∷ ts) = t ++ continued ts

-- ENTRIES
unfoldable pub entries_text : List Entry → Bytes
entries_text es = joined (used_texts 0 es)

-- What one entry adds to the text, where others stand before it or none.
unfoldable pub next_text : Bool → ℕ → Entry → Bytes
next_text some i e = cond e.used (cond some (59 ∷ entry_text i e) (entry_text i e)) []

-- ---- the line

-- `N state CLOCK HELD ` with its last space
unfoldable pub numbers_text : ℕ → Table → Bytes
numbers_text n t =
    decimal n ++ ((32 ∷ 115 ∷ 116 ∷ 97 ∷ 116 ∷ 101 ∷ 32 ∷ []) ++ (decimal t.clock ++ (32 ∷ decimal t.held ++ (32 ∷ []))))

-- `N state CLOCK HELD ENTRIES UPLOAD RESPONSE`
unfoldable pub state_text : ℕ → Table → Bytes → Bytes → Bytes
state_text n t upload response = numbers_text n t ++ (entries_text t.entries ++ (32 ∷ memories_text upload response))
