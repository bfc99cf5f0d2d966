-- A call on a key, at a time that is not before the clock, leaves a table within the limits within them. Assumes nothing.
use Prim.Native.Nat.{ℕ, ◌≤◌, ◌<◌}
use mathlib.Core.Bool.{true}
use mathlib.Core.Path.{◌≡◌, refl, sym, ◌∙◌}
use mathlib.Core.List.{List}
use native.Mathlib.Omega.{arith}
use lib.ListN.{length, length-set}
use Rattle.config.specs.declared.Config.{Config}
use Rattle.block_state.specs.declared.BlockState.{BlockState}
use Rattle.pieces.proofs.Tests.{by_cases}
use Rattle.block_state.proofs.Fits.{StateFits, nothing-fits}
use Rattle.entries.specs.declared.Entry.{Entry}
use Rattle.block_table.specs.declared.Table.{Table}
use Rattle.keys.specs.Keys.{Name, key_ok}
use Rattle.entries.specs.Entries.{in_use, entry_ok}
use Rattle.block_table.specs.Table.{at, table_with}
use Rattle.key_place.specs.Place.{place}
use Rattle.places.specs.Places.{opened}
use Rattle.keys.proofs.Keys.{same-eq, stored_ok_lem}
use Rattle.entries.proofs.Entries.{holds-new, EntryFits, entry-fits, fits-entry}
use Rattle.block_table.proofs.Row.{at_set, unique-set}
use Rattle.places.proofs.Places.{others, opened-own, opened-new, opened-key}
use Rattle.block_table.proofs.TableFits.{TableFits, row, row-length, row-unique, row_ok}

module _ (c : Config) (t : Table) (time : ℕ) (f : TableFits c t) (sixteen : length t.entries ≡ 16) (later : t.clock ≤ time) (k : Name) (ok : key_ok k ≡ true) (p : place k (row c t time) < 16) where
  -- the entry that the call starts from
  pub opened-fits : EntryFits c time (opened k (row c t time))
  opened-fits =
      let l : List Entry = row c t time in
      by_cases (at l (place k l)).used
      (λ u. rw (opened-own k l u) (entry-fits c time (at l (place k l)) u (row_ok c t time f sixteen later (place k l) p)))
      (λ n. rw (opened-new k l n) (record { key = stored_ok_lem k ok; touched = omega arith; state = nothing-fits c }))

  -- the table with that entry touched, and with any state that is within the limits
  pub put-fits : (s : BlockState) → StateFits c s
      → TableFits c (table_with time (row c t time) (place k (row c t time)) (in_use (opened k (row c t time)).key time s))
  put-fits s g =
      let l : List Entry = row c t time in
      let e : Entry = in_use (opened k l).key time s in
      let b : place k l < length l = omega (arith, row-length c t time f sixteen) in
      record {
        each = λ j h.
            at_set l (place k l) e b (λ j e. entry_ok c time e ≡ true)
            (fits-entry c time e refl (record { key = opened-fits.key; touched = omega arith; state = g }))
            (λ j h ne. row_ok c t time f sixteen later j (omega (arith, row-length c t time f sixteen))) j (omega (arith, length-set l (place k l) e));
        figure = refl;
        unique =
            unique-set l (place k l) e b k
            (λ q h. same-eq q k (sym (holds-new q k (opened k l).key time s (opened-key k l (row-length c t time f sixteen))) ∙ h)) (row-unique c t time f sixteen)
            (λ j h ne. others k l (row-length c t time f sixteen) (row-unique c t time f sixteen) p j (omega (arith, row-length c t time f sixteen)) ne);
      }
