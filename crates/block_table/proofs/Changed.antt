-- Laws of a changed table: its clock, its entries, its figure, and that what is put back where it stood changes nothing. Assumes nothing.
use Prim.Native.Nat.{ℕ, zero, suc, ◌+◌, ◌-◌, ◌<◌}
use mathlib.Core.Path.{◌≡◌, refl, sym, ap, ◌∙◌}
use mathlib.Core.Logic.{◌≢◌}
use mathlib.Core.List.{List, [], ◌∷◌}
use lib.ListN.{length, set, length-set}
use lib.Seq.{get_or-set_same, get_or-set_other}
use Rattle.entries.specs.declared.Entry.{Entry}
use Rattle.entries.specs.Entries.{free}
use Rattle.block_table.specs.declared.Table.{Table}
use Rattle.entries.specs.Held.{held_by, held}
use Rattle.entries.proofs.Held.{held-set}
use Rattle.block_table.specs.Table.{at, table_with}
use Rattle.block_table.specs.Quick.{figured}

module _ (clock : ℕ) (row : List Entry) (i : ℕ) (e : Entry) where
  pub with-clock : (table_with clock row i e).clock ≡ clock
  with-clock = refl

  pub with-length : length (table_with clock row i e).entries ≡ length row
  with-length = length-set row i e

  pub with-entry : i < length row → at (table_with clock row i e).entries i ≡ e
  with-entry below = get_or-set_same row i e free below

  pub with-other : (j : ℕ) → j ≢ i → at (table_with clock row i e).entries j ≡ at row j
  with-other j other = get_or-set_other row i j e free other

  -- a figure that is kept by difference is the walk's
  pub with-figure : (n : ℕ) → i < length row → n ≡ (held row - held_by (at row i)) + held_by e → figured clock n row i e ≡ table_with clock row i e
  with-figure n below is = λ k. figured clock ((is ∙ sym (held-set row i e below)) k) row i e

set_own : (l : List Entry) (i : ℕ) → set l i (at l i) ≡ l
set_own [] i = refl
set_own (x ∷ l) zero = refl
set_own (x ∷ l) (suc i) = ap (λ (r : List Entry). x ∷ r) (set_own l i)

-- an entry that is put back where it stood, with the figure that was there
pub with-own : (t : Table) (i : ℕ) → figured t.clock t.held t.entries i (at t.entries i) ≡ t
with-own t i = λ k. record { clock = t.clock; held = t.held; entries = set_own t.entries i k }
