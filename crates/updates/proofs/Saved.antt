-- A world's image: it is sound, it is accepted, and it is written whole where there is room. Assumes nothing.
use Prim.Native.Nat.{ℕ, ◌+◌, ◌*◌, ◌≤◌, ◌<◌}
use mathlib.Core.Bool.{true, false}
use mathlib.Core.Path.{◌≡◌, refl, sym, ap, ◌∙◌}
use mathlib.Core.List.{List}
use native.Mathlib.Nat.{zero-add}
use native.Mathlib.Omega.{arith}
use lib.Dec.{ltb}
use lib.ListN.{length, take, drop, get_or-eq_default}
use lib.Seq.{take_at, drop_at}
use borrow.Author.Tests.{ltb-true, ltb-false, le-ltb}
use Rattle.pieces.specs.Memory.{patch}
use Rattle.pieces.proofs.Tests.{by_cases, clash-of}
use Rattle.config.specs.declared.Config.{Config}
use Rattle.gathering.proofs.Laws.{length-gathered}
use Rattle.block_state.proofs.Fits.{assembled-most}
use Rattle.entries.specs.declared.Entry.{Entry}
use Rattle.entries.specs.Entries.{free, live, entry_ok}
use Rattle.entries.proofs.Entries.{EntryFits, entry-fits, live-used, swept-live, swept-dead}
use Rattle.block_table.specs.Table.{at, table_ok, table_of}
use Rattle.block_table.proofs.Row.{at-sweep}
use Rattle.block_table.proofs.TableFits.{fits-table, row-length, row-unique, row_ok}
use Rattle.call.specs.Call.{World}
use Rattle.call.proofs.Frame.{WorldFits}
use Rattle.one_call.specs.Handler.{entry_at}
use Rattle.alike.specs.Alike.{InLimits, live_at}
use Rattle.alike.proofs.Calls.{in-limits-fits}
use Rattle.image_format.specs.Image.{assembled_in, cached_in, total, image_ok}
use Rattle.image_format.specs.Promises.{SoundEntry, Sound, ImageOf}
use Rattle.image_format.proofs.ReadBack.{image-long, image-laid}
use Rattle.image_format.proofs.Exactly.{free-sound, accepts}
use Rattle.image_writer.specs.declared.Saved.{Saved}
use Rattle.image_writer.specs.Save.{live_entries, image_of, saving, saved, output_after}
use Rattle.updates.specs.Updates.{Typed, image, ImageFits, SavedStands, SavedWhole}
use Rattle.image_measure.proofs.Rooms.{upload-most, response-most, num-most, len-most, cached-most, upload-room, response-room, total-most, total-small}

pub free-dead : (lifetime time : ℕ) → live lifetime time free ≡ false
unfolding live
free-dead lifetime time = refl

module _ (c : Config) (w : World) (inside : InLimits c w) where
  pub fits : WorldFits c w
  fits = in-limits-fits c w inside

  abbrev clock : ℕ
  clock = w.table.clock

  abbrev all : List Entry
  all = live_entries c w.table

  pub sixteen : length all ≡ 16
  sixteen = row-length c w.table clock fits.table fits.sixteen

  pub all-ok : (i : ℕ) → i < 16 → entry_ok c clock (at all i) ≡ true
  all-ok = row_ok c w.table clock fits.table fits.sixteen (omega arith)

  -- an entry is a live one of the world's, or free
  pub at-live : (i : ℕ) → live_at c w i ≡ true → at all i ≡ entry_at w i
  at-live i y = at-sweep c.lifetime clock w.table.entries i ∙ swept-live c.lifetime clock (entry_at w i) y

  pub at_dead : (i : ℕ) → live_at c w i ≡ false → at all i ≡ free
  at_dead i n = at-sweep c.lifetime clock w.table.entries i ∙ swept-dead c.lifetime clock (entry_at w i) n

  pub table-ok : table_ok c (table_of clock all) ≡ true
  table-ok =
      fits-table c (table_of clock all)
      (record { each = λ i b. all-ok i (omega (arith, sixteen)); figure = refl; unique = row-unique c w.table clock fits.table fits.sixteen })

  -- a live entry is one of the sixteen, and within the limits
  pub live-slot : (i : ℕ) → live_at c w i ≡ true → i < 16
  live-slot i y =
      by_cases (ltb i 16) (λ b. ltb-true i 16 b)
      (λ b.
      let none : entry_at w i ≡ free = get_or-eq_default w.table.entries free {n = i} (omega (arith, fits.sixteen, ltb-false i 16 b)) in
      absurd (clash-of (live_at c w i) y (ap (live c.lifetime clock) none ∙ free-dead c.lifetime clock)))

  pub live-fits : (i : ℕ) → live_at c w i ≡ true → EntryFits c clock (entry_at w i)
  live-fits i y =
      entry-fits c clock (entry_at w i) (live-used c.lifetime clock (entry_at w i) y) (fits.table.each i (omega (arith, fits.sixteen, live-slot i y)))

  module _ (t : Typed w) where
    pub live-sound : (i : ℕ) → live_at c w i ≡ true → SoundEntry (entry_at w i)
    live-sound i y =
        let e : Entry = entry_at w i in
        let f : EntryFits c clock e = live-fits i y in
        record {
          key = t.keys i (live-slot i y);
          len = len-most e.key f.key;
          num = omega (arith, num-most e.state.recorded f.state.recorded);
          assembled = omega (arith, assembled-most c e.state.assembled f.state.assembled, upload-most c fits.config);
          payload = omega (arith, cached-most c e.state.cached f.state.cached, response-most c fits.config);
          touched = omega (arith, f.touched, t.clock);
          unused = λ n. absurd (clash-of e.used (live-used c.lifetime clock e y) n);
        }

    pub sound : Sound (image_of c w)
    sound =
        record {
          clock = t.clock;
          sixteen = sixteen;
          each = λ i b. by_cases (live_at c w i) (λ y. rw (at-live i y) (live-sound i y)) (λ n. rw (at_dead i n) free-sound);
          upload = length-gathered c.upload w.upload 0 (assembled_in all) (upload-room c clock all sixteen all-ok w.upload fits.upload);
          response = length-gathered c.response w.response 0 (cached_in all) (response-room c clock all sixteen all-ok w.response fits.response);
        }

    pub is-image : ImageOf c (image c w) (image_of c w)
    is-image = record { bytes = refl; sound = sound; table = table-ok }

    pub passes : image_ok c (image c w) ≡ true
    passes = accepts c (image c w) (image_of c w) is-image

    -- how long it is
    pub saved-long : length (image c w) ≡ total all
    saved-long = image-long (image_of c w) sound

    pub saved-most : length (image c w) ≤ 1568 + 16 * c.upload + 16 * c.response
    saved-most = rw saved-long (total-most c clock all sixteen all-ok)

    -- an output with room for it
    module _ (out : List ℕ) (room : length (image c w) ≤ length out) where
      abbrev answer : Saved
      answer = saving 0 (length (image c w))

      is-saved : saved c w (length out) ≡ answer
      unfolding saved
      is-saved = rw (inside.config, inside.memories, inside.table, le-ltb (length out) (total all) (omega (arith, saved-long))) (ap (saving 0) (sym saved-long))

      whole : (take (length (image c w)) (output_after c w out answer) ≡ image c w) × (drop (length (image c w)) (output_after c w out answer) ≡ drop (length (image c w)) out)
      unfolding output_after patch
      whole =
          let rest : List ℕ = drop (0 + length (image c w)) out in
          (take_at (image c w) rest _ refl, drop_at (image c w) rest _ refl ∙ rw zero-add)

pub image-fits : ImageFits
unfolding ImageFits
image-fits = saved-most

pub saved-stands : SavedStands
unfolding SavedStands
saved-stands c w inside t =
    image-laid (image_of c w) (sound c w inside t) (total-small c w.table.clock (all c w inside) (sixteen c w inside) (all-ok c w inside) inside.config)

pub saved-whole : SavedWhole
unfolding SavedWhole
saved-whole c w out inside t room =
    let is = is-saved c w inside t out room in
    rw is (refl, (whole c w inside t out room).0, (whole c w inside t out room).1)
