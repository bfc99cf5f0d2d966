-- LOADING WHAT WAS SAVED: the world that is then there, and that no call tells it from the world that was saved. Assumes nothing.
use Prim.Native.Nat.{ℕ, ◌+◌, ◌*◌}
use mathlib.Core.Bool.{Bool, true, false}
use mathlib.Core.Path.{◌≡◌, refl, sym, ap, ◌∙◌}
use mathlib.Core.List.{List, map}
use native.Mathlib.Nat.{zero-add}
use lib.ListN.{length, take, drop, get_or, length-map, get_or-map}
use Rattle.pieces.specs.Memory.{piece_of}
use Rattle.pieces.proofs.Tests.{by_cases}
use Rattle.config.specs.declared.Config.{Config}
use Rattle.block_state.specs.declared.BlockState.{BlockState}
use Rattle.block_state.specs.Held.{held_in}
use Rattle.gathering.specs.Gather.{gathered, scattered}
use Rattle.gathering.proofs.Laws.{Room, scattered-each, scattered-rest}
use Rattle.keys.specs.Keys.{key_of}
use Rattle.keys.proofs.Keys.{key-stored}
use Rattle.entries.specs.declared.Entry.{Entry}
use Rattle.entries.specs.Entries.{free, live}
use Rattle.block_table.specs.Table.{at, table_of}
use Rattle.call.specs.Call.{World}
use Rattle.one_call.specs.Handler.{entry_at}
use Rattle.alike.specs.Alike.{InLimits, live_at, SameEntry, Alike}
use Rattle.image_format.specs.Image.{assembled_in, cached_in}
use Rattle.image_format.specs.Promises.{SoundEntry, plain, plainly}
use Rattle.image_format.proofs.Rows.{stored-len}
use Rattle.image_format.proofs.ReadBack as images
use Rattle.image_format.proofs.ReadBack.{key-length, free-plain, assembled-plain, cached-plain}
use Rattle.image_format.proofs.Exactly.{table-plain}
use Rattle.image_writer.specs.Save.{live_entries, image_of}
use Rattle.image_reader.specs.Load.{fresh_ok, world_of, Loading, loading, loaded}
use Rattle.updates.specs.Updates.{Typed, image, moved, Carried, SavedLoads}
use Rattle.image_measure.proofs.Rooms.{length_at, cached-held, upload-room, response-room}
use Rattle.updates.proofs.Saved.{free-dead, fits, sixteen, all-ok, at-live, at_dead, table-ok, live-fits, live-sound, sound, is-image}
use Rattle.updates.proofs.Loads.{loads-image, fresh-upload, fresh-response, world-within}

-- n bytes of memory m stand at the start of piece i, and all else there is as it was in x
record InPiece (u i n : ℕ) (m x v : List ℕ) : Type 0 where
  own : take n (piece_of u i v) ≡ take n (piece_of u i m)
  rest : drop n (piece_of u i v) ≡ drop n (piece_of u i x)

put_in : (u : ℕ) (f : Entry → ℕ) → f free ≡ 0 → (l : List Entry) (m x : List ℕ) → Room u (length m) 0 (map f l) → Room u (length x) 0 (map f l) → (i : ℕ)
    → InPiece u i (f (at l i)) m x (scattered u x 0 (map f l) (gathered u m 0 (map f l)))
put_in u f none l m x r s i =
    record {
      own = rw (length_at f l i none, zero-add i) at (scattered-each u m x 0 (map f l) r s i);
      rest = rw (length_at f l i none, zero-add i) at (scattered-rest u x 0 (map f l) (gathered u m 0 (map f l)) s i);
    }

plain-live : (lifetime time : ℕ) (e : Entry) → live lifetime time (plain e) ≡ live lifetime time e
unfolding live
plain-live lifetime time e = refl

module _ (c : Config) (w x : World) (inside : InLimits c w) (t : Typed w) (fresh : fresh_ok c x ≡ true) where
  abbrev all : List Entry
  all = live_entries c w.table

  abbrev v : World
  v =
      record {
        table = table_of w.table.clock (map plain all);
        upload = scattered c.upload x.upload 0 (assembled_in all) (gathered c.upload w.upload 0 (assembled_in all));
        response = scattered c.response x.response 0 (cached_in all) (gathered c.response w.response 0 (cached_in all));
      }

  is-v : world_of c x (plainly (image_of c w)) ≡ v
  is-v = rw (assembled-plain all, cached-plain all)

  pub is-loaded : loaded c x (image c w) ≡ loading 0 v
  is-loaded = loads-image c x (image c w) (image_of c w) fresh (is-image c w inside t) ∙ ap (loading 0) is-v

  pub is-moved : moved c w x ≡ v
  is-moved = ap (λ (d : Loading). d.world) is-loaded

  within : InLimits c v
  within =
      rw is-v at
      (world-within c x fresh (plainly (image_of c w)) (length-map all plain ∙ sixteen c w inside)
      (table-plain c w.table.clock all (images.sound (image_of c w) (sound c w inside t)) ∙ table-ok c w inside))

  -- ---- its entries

  pub entry-is : (i : ℕ) → entry_at v i ≡ plain (at all i)
  entry-is i = ap (get_or (map plain all) i) (sym free-plain) ∙ get_or-map plain all i free

  entry-live : (i : ℕ) → live_at c w i ≡ true → entry_at v i ≡ plain (entry_at w i)
  entry-live i y = entry-is i ∙ ap plain (at-live c w inside i y)

  entry-dead : (i : ℕ) → live_at c w i ≡ false → entry_at v i ≡ free
  entry-dead i n = entry-is i ∙ ap plain (at_dead c w inside i n) ∙ free-plain

  lives : (i : ℕ) → live_at c w i ≡ live_at c v i
  lives i =
      let here : Entry → Bool = live c.lifetime w.table.clock in
      by_cases (live_at c w i) (λ y. sym (ap here (entry-live i y) ∙ plain-live c.lifetime w.table.clock (entry_at w i)))
      (λ n. n ∙ sym (ap here (entry-dead i n) ∙ free-dead c.lifetime w.table.clock))

  -- ---- its memories

  up_room : (m : List ℕ) → length m ≡ 16 * c.upload → Room c.upload (length m) 0 (assembled_in all)
  up_room = upload-room c w.table.clock all (sixteen c w inside) (all-ok c w inside)

  down-room : (m : List ℕ) → length m ≡ 16 * c.response → Room c.response (length m) 0 (cached_in all)
  down-room = response-room c w.table.clock all (sixteen c w inside) (all-ok c w inside)

  module _ (i : ℕ) where
    in-upload : InPiece c.upload i (at all i).state.assembled.len w.upload x.upload v.upload
    in-upload =
        put_in c.upload (λ e. e.state.assembled.len) refl all w.upload x.upload (up_room w.upload (fits c w inside).upload)
        (up_room x.upload (fresh-upload c x fresh)) i

    in-response : InPiece c.response i ((at all i).state.cached.head + (at all i).state.cached.payload) w.response x.response v.response
    in-response =
        put_in c.response (λ e. e.state.cached.head + e.state.cached.payload) refl all w.response x.response
        (down-room w.response (fits c w inside).response) (down-room x.response (fresh-response c x fresh)) i

    same : live_at c w i ≡ true → SameEntry c w v i
    same y =
        let e : Entry = entry_at w i in
        let is : entry_at v i ≡ plain e = entry-live i y in
        let state : e.state ≡ (entry_at v i).state = sym (ap (λ (e : Entry). e.state) is) in
        let here : at all i ≡ e = at-live c w inside i y in
        let s : SoundEntry e = live-sound c w inside t i y in
        let held : held_in e.state.cached ≡ e.state.cached.head + e.state.cached.payload = cached-held c e.state.cached (live-fits c w inside i y).state.cached in
        record {
          long = rw is (sym (stored-len (key_of e.key) ∙ key-length e s));
          key = rw is (sym (key-stored (key_of e.key)));
          touched = sym (ap (λ (e : Entry). e.touched) is);
          state = state;
          assembled = sym (rw here at in-upload.own) ∙ ap (λ (s : BlockState). take s.assembled.len (piece_of c.upload i v.upload)) state;
          cached =
              rw held (sym (rw here at in-response.own)) ∙ ap (λ (s : BlockState). take (held_in s.cached) (piece_of c.response i v.response)) state;
        }

  alike : Alike c w v
  alike = record { left = inside; right = within; clock = refl; lives = lives; same = same }

  carried : Carried c w x v
  carried = record { table = refl; alike = alike; upload = λ i. (in-upload i).rest; response = λ i. (in-response i).rest }

-- LOADING WHAT WAS SAVED
pub saved-loads : SavedLoads
unfolding SavedLoads
saved-loads c w x inside t fresh =
    (ap (λ (d : Loading). d.refusal) (is-loaded c w x inside t fresh), rw (is-moved c w x inside t fresh) (carried c w x inside t fresh))
