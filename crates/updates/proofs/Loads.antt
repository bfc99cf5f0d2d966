-- WHICH IMAGES ARE LOADED, AND WHAT THEY LEAVE: exactly those that describe a table within the limits; what is then there is within the limits, and is saved as the same bytes.
-- Assumes nothing.
use Prim.Native.Nat.{ℕ, ◌*◌, ◌<◌}
use mathlib.Core.Bool.{true, false}
use mathlib.Core.Path.{◌≡◌, sym, ap, ◌∙◌}
use mathlib.Core.List.{List}
use native.Mathlib.Omega.{arith}
use lib.ListN.{length}
use borrow.Author.Tests.{eqb-true, eq-eqb}
use Rattle.pieces.proofs.Tests.{ands, and_both, by_cases}
use Rattle.config.specs.declared.Config.{Config}
use Rattle.gathering.proofs.Laws.{length-scattered}
use Rattle.entries.specs.Entries.{entry_ok}
use Rattle.block_table.specs.Table.{at, table_ok, table_of}
use Rattle.block_table.proofs.TableFits.{table_fits}
use Rattle.judge.specs.Limits.{config_ok, memories_ok}
use Rattle.call.specs.Call.{World}
use Rattle.alike.specs.Alike.{InLimits}
use Rattle.image_format.specs.Image.{Image, assembled_in, cached_in, read_image, image_ok}
use Rattle.image_format.specs.Promises.{plainly, ImageOf}
use Rattle.image_format.proofs.Rows.{read-sixteen}
use Rattle.image_format.proofs.ReadBack.{image-back}
use Rattle.image_format.proofs.Exactly.{accepted, accepts}
use Rattle.image_reader.specs.Load.{fresh_ok, world_of, Loading, loading, loaded}
use Rattle.updates.specs.Updates.{LoadsExactly, LoadsWithin}
use Rattle.image_measure.proofs.Rooms.{upload-room, response-room}

module _ (c : Config) (x : World) where
  -- ---- by the cases

  pub loaded-stale : (l : List ℕ) → fresh_ok c x ≡ false → loaded c x l ≡ loading 1 x
  unfolding loaded
  loaded-stale l n = rw n

  pub loaded-bad : (l : List ℕ) → fresh_ok c x ≡ true → image_ok c l ≡ false → loaded c x l ≡ loading 12 x
  unfolding loaded
  loaded-bad l y n = rw (y, n)

  pub loaded-good : (l : List ℕ) → fresh_ok c x ≡ true → image_ok c l ≡ true → loaded c x l ≡ loading 0 (world_of c x (read_image l))
  unfolding loaded
  loaded-good l y ok = rw (y, ok)

  -- an image that is loaded was judged so
  pub was-good : (l : List ℕ) → (loaded c x l).refusal ≡ 0 → (fresh_ok c x ≡ true) × (image_ok c l ≡ true)
  was-good l h =
      by_cases (fresh_ok c x)
      (λ y. by_cases (image_ok c l) (λ ok. (y, ok))
      (λ n. absurd (no 12 (sym (ap (λ (d : Loading). d.refusal) (loaded-bad l y n)) ∙ h) (omega arith))))
      (λ n. absurd (no 1 (sym (ap (λ (d : Loading). d.refusal) (loaded-stale l n)) ∙ h) (omega arith)))
    where
      no : (n : ℕ) → n ≡ 0 → 0 < n → ⊥
      no n e h = omega arith

  pub loads-image : (l : List ℕ) (k : Image) → fresh_ok c x ≡ true → ImageOf c l k → loaded c x l ≡ loading 0 (world_of c x (plainly k))
  loads-image l k fresh i =
      loaded-good l fresh (accepts c l k i) ∙ ap (λ (y : Image). loading 0 (world_of c x y)) (ap read_image i.bytes ∙ image-back k i.sound)

  -- ---- what is then there

  module _ (fresh : fresh_ok c x ≡ true) where
    pub fresh-config : config_ok c ≡ true
    unfolding fresh_ok
    fresh-config = search ands

    pub fresh-upload : length x.upload ≡ 16 * c.upload
    unfolding fresh_ok memories_ok
    fresh-upload = eqb-true (length x.upload) (16 * c.upload) (search ands)

    pub fresh-response : length x.response ≡ 16 * c.response
    unfolding fresh_ok memories_ok
    fresh-response = eqb-true (length x.response) (16 * c.response) (search ands)

    module _ (k : Image) (sixteen : length k.entries ≡ 16) (ok : table_ok c (table_of k.clock k.entries) ≡ true) where
      pub each : (i : ℕ) → i < 16 → entry_ok c k.clock (at k.entries i) ≡ true
      each i b = (table_fits c (table_of k.clock k.entries) ok).each i (omega arith)

      pub world-within : InLimits c (world_of c x k)
      unfolding memories_ok
      world-within =
          let up : length (world_of c x k).upload ≡ 16 * c.upload =
          length-scattered c.upload x.upload 0 (assembled_in k.entries) k.upload (upload-room c k.clock k.entries sixteen each x.upload fresh-upload)
          ∙ fresh-upload in
          let down : length (world_of c x k).response ≡ 16 * c.response =
          length-scattered c.response x.response 0 (cached_in k.entries) k.response
          (response-room c k.clock k.entries sixteen each x.response fresh-response)
          ∙ fresh-response in
          record { config = fresh-config; memories = search (and_both, eq-eqb); sixteen = sixteen; table = ok }

pub table-good : (c : Config) (l : List ℕ) → image_ok c l ≡ true → table_ok c (table_of (read_image l).clock (read_image l).entries) ≡ true
unfolding image_ok
table-good c l ok = search ands

pub sixteen-read : (l : List ℕ) → length (read_image l).entries ≡ 16
unfolding read_image
sixteen-read l = read-sixteen l

-- WHATEVER IS LOADED IS WITHIN THE LIMITS
pub loads-within : LoadsWithin
unfolding LoadsWithin
loads-within c x l h =
    let g = was-good c x l h in
    rw (loaded-good c x l g.0 g.1) (world-within c x g.0 (read_image l) (sixteen-read l) (table-good c l g.1))

pub loads-exactly : LoadsExactly
loads-exactly =
    record {
      loads = loads-image;
      only = λ c x l bytes h. let g = was-good c x l h in (g.0, (read_image l, accepted c l bytes g.1));
      leaves = λ c x l h.
          by_cases (fresh_ok c x)
          (λ y. by_cases (image_ok c l) (λ ok. absurd (h (ap (λ (d : Loading). d.refusal) (loaded-good c x l y ok))))
          (λ n. ap (λ (d : Loading). d.world) (loaded-bad c x l y n)))
          (λ n. ap (λ (d : Loading). d.world) (loaded-stale c x l n));
    }
