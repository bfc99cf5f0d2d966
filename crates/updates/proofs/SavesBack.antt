-- What was loaded is saved as the same bytes. Assumes nothing.
use Prim.Native.Nat.{ℕ, ◌<◌}
use mathlib.Core.Bool.{true, false}
use mathlib.Core.Path.{◌≡◌, refl, ap, ap₂, ◌∙◌}
use mathlib.Core.List.{List, [], ◌∷◌}
use native.Mathlib.Omega.{arith}
use lib.ListN.{length}
use lib.Seq.{take_all}
use Rattle.pieces.proofs.Tests.{by_cases}
use Rattle.config.specs.declared.Config.{Config}
use Rattle.gathering.specs.Gather.{sum, gathered, scattered}
use Rattle.gathering.proofs.Laws.{Room, gather-scattered}
use Rattle.entries.specs.declared.Entry.{Entry}
use Rattle.entries.specs.Entries.{free, swept, sweep}
use Rattle.entries.proofs.Entries.{swept-live, swept-dead}
use Rattle.block_table.specs.Table.{at}
use Rattle.call.specs.Call.{World}
use Rattle.one_call.specs.Handler.{entry_at}
use Rattle.alike.specs.Alike.{live_at}
use Rattle.image_format.specs.Image.{Image, assembled_in, cached_in, image_bytes, read_entries, read_image, image_ok}
use Rattle.image_format.proofs.Rows.{Every, at_every, every-at, read-blank}
use Rattle.image_format.proofs.Judged.{passes}
use Rattle.image_format.proofs.Exactly.{upload-long, response-long}
use Rattle.image_writer.specs.Save.{image_with, image_of}
use Rattle.image_reader.specs.Load.{fresh_ok, world_of}
use Rattle.updates.specs.Updates.{image, SavesBack}
use Rattle.image_measure.proofs.Rooms.{upload-room, response-room}
use Rattle.updates.proofs.Saved.{free-dead}
use Rattle.updates.proofs.Loads.{was-good, loaded-good, fresh-upload, fresh-response, each, table-good, sixteen-read}

-- a sweep leaves entries as they are if it leaves each
sweep-same : (lifetime time : ℕ) (l : List Entry) → Every (λ e. swept lifetime time e ≡ e) l → sweep lifetime time l ≡ l
unfolding sweep
sweep-same lifetime time [] all = refl
sweep-same lifetime time (e ∷ l) all = ap₂ ◌∷◌ all.0 (sweep-same lifetime time l all.1)

-- bytes that were scattered, all of them
gather-back : (u : ℕ) (m : List ℕ) (l b : List ℕ) → Room u (length m) 0 l → length b ≡ sum l → gathered u (scattered u m 0 l b) 0 l ≡ b
gather-back u m l b r h = gather-scattered u m 0 l b r (omega arith) ∙ take_all (sum l) b (omega arith)

module _ (c : Config) (x : World) (l : List ℕ) (fresh : fresh_ok c x ≡ true) (ok : image_ok c l ≡ true) where
  abbrev k : Image
  k = read_image l

  abbrev v : World
  v = world_of c x k

  blank : (i : ℕ) → i < length k.entries → (at k.entries i).used ≡ false → at k.entries i ≡ free
  unfolding read_image
  blank = every-at (λ e. e.used ≡ false → e ≡ free) (read_entries l) (read-blank l)

  module _ (alive : (i : ℕ) → i < 16 → (entry_at v i).used ≡ true → live_at c v i ≡ true) where
    left : Every (λ e. swept c.lifetime k.clock e ≡ e) k.entries
    left =
        at_every (λ e. swept c.lifetime k.clock e ≡ e) k.entries (λ i b.
        let e : Entry = at k.entries i in
        by_cases e.used (λ u. swept-live c.lifetime k.clock e (alive i (omega (arith, sixteen-read l)) u))
        (λ n. rw (blank i b n) (swept-dead c.lifetime k.clock free (free-dead c.lifetime k.clock))))

    same-image : image_of c v ≡ k
    same-image =
        let sixteen = sixteen-read l in
        let fits = each c x fresh k sixteen (table-good c l ok) in
        let p = passes c l ok in
        let up = gather-back c.upload x.upload (assembled_in k.entries) k.upload
        (upload-room c k.clock k.entries sixteen fits x.upload (fresh-upload c x fresh)) (upload-long l p) in
        let down = gather-back c.response x.response (cached_in k.entries) k.response
        (response-room c k.clock k.entries sixteen fits x.response (fresh-response c x fresh)) (response-long l p) in
        ap (λ (all : List Entry). image_with c k.clock all v.upload v.response) (sweep-same c.lifetime k.clock k.entries left)
        ∙ λ j. record { clock = k.clock; entries = k.entries; upload = up j; response = down j }

    same_bytes : image c v ≡ l
    same_bytes = ap image_bytes same-image ∙ (passes c l ok).is

pub saves-back : SavesBack
unfolding SavesBack
saves-back c x l h =
    let g = was-good c x l h in
    rw (loaded-good c x l g.0 g.1) (same_bytes c x l g.0 g.1)
