-- What the types give of a world stays so. Assumes nothing.
use Prim.Native.Nat.{ℕ, ◌^◌, ◌<◌}
use mathlib.Core.Bool.{true}
use mathlib.Core.Path.{◌≡◌, refl}
use mathlib.Core.List.{List}
use native.Mathlib.Omega.{arith}
use lib.ListN.{length, set}
use Rattle.pieces.proofs.Tests.{by_cases}
use Rattle.config.specs.declared.Config.{Config}
use Rattle.block_state.specs.declared.BlockState.{BlockState}
use Rattle.block_state.specs.Message.{What, request, response}
use Rattle.keys.specs.Keys.{key_of, key_ok}
use Rattle.keys.proofs.Keys.{key-short}
use Rattle.entries.specs.declared.Entry.{Entry}
use Rattle.entries.specs.Entries.{in_use, live}
use Rattle.entries.proofs.Entries.{swept-live, swept-dead}
use Rattle.block_table.specs.Table.{at}
use Rattle.block_table.proofs.Row.{at-sweep, at_set}
use Rattle.block_table.proofs.TableFits.{row-length}
use Rattle.key_place.specs.Place.{place}
use Rattle.places.specs.Places.{opened}
use Rattle.places.proofs.Places.{opened-own, opened-new}
use Rattle.call.specs.Call.{World, Call, call_at, row_of, call}
use Rattle.call.proofs.Frame.{WorldFits, call-cases}
use Rattle.one_call.specs.Handler.{entry_at}
use Rattle.alike.proofs.Calls.{in-limits-fits}
use Rattle.image_format.proofs.Rows.{length-stored}
use Rattle.image_format.proofs.ReadBack.{sound-short}
use Rattle.image_writer.specs.Save.{live_entries}
use Rattle.updates.specs.Updates.{Typed, TypedKept}
use Rattle.updates.proofs.Saved.{sound}
use Rattle.updates.proofs.Carried.{entry-is, is-moved}

abbrev Key64 : Entry → Type 0
Key64 e = length e.key.bytes ≡ 64

module _ (c : Config) (w : World) (q : Call) (f : WorldFits c w) (t : Typed w) (small : q.time < 2 ^ 64) where
  abbrev row : List Entry
  row = row_of c w q

  abbrev here : ℕ
  here = place q.key row

  long : length row ≡ 16
  long = row-length c w.table q.time f.table f.sixteen

  row-64 : (j : ℕ) → j < 16 → Key64 (at row j)
  row-64 j h =
      rw (at-sweep c.lifetime q.time w.table.entries j)
      (by_cases (live c.lifetime q.time (entry_at w j))
      (λ y. rw (swept-live c.lifetime q.time (entry_at w j) y) (t.keys j h))
      (λ n. rw (swept-dead c.lifetime q.time (entry_at w j) n) refl))

  module _ (named : key_ok q.key ≡ true) (p : here < 16) where
    opened-64 : Key64 (opened q.key row)
    opened-64 =
        by_cases (at row here).used (λ y. rw (opened-own q.key row y) (row-64 here p))
        (λ n. rw (opened-new q.key row n) (length-stored q.key (key-short q.key named)))

    put-64 : (s : BlockState) (j : ℕ) → j < 16 → Key64 (at (set row here (in_use (opened q.key row).key q.time s)) j)
    put-64 s j h =
        at_set row here (in_use (opened q.key row).key q.time s) (omega (arith, long)) (λ _ e. Key64 e) opened-64
        (λ i b _. row-64 i (omega (arith, long))) j (omega (arith, long))

    placed : (x : What) → Typed (call_at c w q.time row here (opened q.key row) x).world
    unfolding call_at
    placed (request r) = record { clock = small; keys = put-64 _ }
    placed (response r) = record { clock = small; keys = put-64 _ }

  typed_call : Typed (call c w q).world
  typed_call = call-cases (λ d. Typed d.world) c w q (λ n. t) (λ named ok later p. placed named p q.what)

pub typed-kept : TypedKept
typed-kept =
    record {
      called = λ c w q inside t h. typed_call c w q (in-limits-fits c w inside) t h;
      moved = λ c w x inside t fresh.
          rw (is-moved c w x inside t fresh)
          (record {
            clock = t.clock;
            keys = λ j h.
                let s = (sound c w inside t).each j h in
                rw (entry-is c w x inside t fresh j) (length-stored (key_of (at (live_entries c w.table) j).key) (sound-short (at (live_entries c w.table) j) s));
          });
    }
