-- The limits of a table by its entries: a fresh table is within them, and so is what a sweep leaves of a table that is; how much one can hold. Assumes nothing.
use Prim.Native.Nat.{ℕ, ◌+◌, ◌*◌, ◌≤◌, ◌<◌}
use mathlib.Core.Bool.{true, false≢true}
use mathlib.Core.Path.{◌≡◌, refl, ◌∙◌}
use mathlib.Core.List.{List}
use native.Mathlib.Omega.{arith}
use lib.ListN.{length, replicate, get_or-replicate}
use Rattle.config.specs.declared.Config.{Config}
use borrow.Author.Tests.{eqb-true, eq-eqb}
use Rattle.pieces.proofs.Tests.{ands}
use Rattle.entries.specs.declared.Entry.{Entry}
use Rattle.block_table.specs.declared.Table.{Table}
use Rattle.entries.specs.Entries.{free, entry_ok, live, sweep}
use Rattle.entries.specs.Held.{held_by, held}
use Rattle.block_table.specs.Table.{figure_ok, table_ok, at, fresh_table}
use Rattle.keys.proofs.Lists.{all-at, at_all}
use Rattle.entries.proofs.Entries.{holds-used, swept-live, free-ok, swept-ok}
use Rattle.entries.proofs.Held.{row-most}
use Rattle.block_table.proofs.Row.{Unique, distinct-unique, unique-distinct, length-sweep, at-sweep, unique-sweep}

pub record TableFits (c : Config) (t : Table) : Type 0 where
  pub each : (i : ℕ) → i < length t.entries → entry_ok c t.clock (at t.entries i) ≡ true
  pub figure : t.held ≡ held t.entries
  pub unique : Unique t.entries

pub table_fits : (c : Config) (t : Table) → table_ok c t ≡ true → TableFits c t
unfolding table_ok figure_ok
table_fits c t h =
    record {
      each = all-at (entry_ok c t.clock) free t.entries (search ands);
      figure = eqb-true t.held (held t.entries) (search ands);
      unique = distinct-unique t.entries (search ands);
    }

pub fits-table : (c : Config) (t : Table) → TableFits c t → table_ok c t ≡ true
unfolding table_ok figure_ok
fits-table c t f =
    let every = at_all (entry_ok c t.clock) free t.entries f.each in
    rw (every, eq-eqb t.held (held t.entries) f.figure, unique-distinct t.entries f.unique)

-- ---- a fresh table

pub fresh-fits : (c : Config) → TableFits c fresh_table
unfolding Unique
fresh-fits c =
    record {
      each = λ i b. rw (at-fresh i b) (free-ok c 0);
      figure = refl;
      unique = λ k i j hi hj a b. absurd (false≢true (holds-used k free (rw (at-fresh i hi) at a)));
    }
  where
    at-fresh : (i : ℕ) → i < length (replicate 16 free) → at (replicate 16 free) i ≡ free
    at-fresh i b = get_or-replicate 16 i free free b

pub fresh_ok_lem : (c : Config) → table_ok c fresh_table ≡ true
fresh_ok_lem c = fits-table c fresh_table (fresh-fits c)

-- it holds nothing
pub fresh-figure : fresh_table.held ≡ 0
unfolding held held_by
fresh-figure = refl

-- ---- the figure

-- no table within the limits holds more than both memories
pub figure-most : (c : Config) (t : Table) → TableFits c t → length t.entries ≡ 16 → t.held ≤ 16 * (c.upload + c.response)
figure-most c t f sixteen =
    let most = row-most c t.clock t.entries (at_all (entry_ok c t.clock) free t.entries f.each) in
    rw f.figure (rw sixteen at most)

-- ---- a call on a key, at a time that is not before the clock

-- what a call finds: the entries that are live
abbrev pub row : Config → Table → ℕ → List Entry
row c t time = sweep c.lifetime time t.entries

module _ (c : Config) (t : Table) (time : ℕ) (f : TableFits c t) (sixteen : length t.entries ≡ 16) where
  pub row-length : length (row c t time) ≡ 16
  row-length = length-sweep c.lifetime time t.entries ∙ sixteen

  pub row-unique : Unique (row c t time)
  row-unique = unique-sweep c.lifetime time t.entries f.unique

  pub row-live : (i : ℕ) → live c.lifetime time (at t.entries i) ≡ true → at (row c t time) i ≡ at t.entries i
  row-live i h = at-sweep c.lifetime time t.entries i ∙ swept-live c.lifetime time (at t.entries i) h

  module _ (later : t.clock ≤ time) where
    pub row_ok : (i : ℕ) → i < 16 → entry_ok c time (at (row c t time) i) ≡ true
    row_ok i b =
        rw (at-sweep c.lifetime time t.entries i)
        (swept-ok c c.lifetime t.clock time (at t.entries i) later (f.each i (omega arith)))
