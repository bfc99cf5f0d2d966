-- What is read of an image, and what loading comes to, by its cases. Assumes nothing.
use Prim.Native.Nat.{ℕ, ◌*◌}
use mathlib.Core.Bool.{Bool, true, false, ◌&&◌}
use mathlib.Core.Path.{◌≡◌, refl, sym, ap, ◌∙◌}
use mathlib.Core.List.{List}
use native.Mathlib.Omega.{arith}
use lib.Dec.{eqb}
use lib.ListN.{length, take, drop, replicate}
use lib.Seq.{drop-drop}
use borrow.Author.Tests.{eqb-true}
use Rattle.std.specs.Prelude.{is_some, IfSome}
use Rattle.std.specs.Bool.{then_some}
use Rattle.pieces.specs.Memory.{part}
use Rattle.pieces.proofs.Memory.{patch-whole}
use Rattle.pieces.proofs.Tests.{ands}
use Rattle.config.specs.declared.Config.{Config}
use Rattle.gathering.specs.Gather.{sum, scattered}
use Rattle.gathering.proofs.Laws.{scattered-take}
use Rattle.big_endian.specs.Numbers.{number_at}
use Rattle.keys.specs.Keys.{same}
use Rattle.entries.specs.declared.Entry.{Entry}
use Rattle.entries.specs.Entries.{free}
use Rattle.block_table.specs.declared.Table.{Table}
use Rattle.block_table.specs.Table.{table_ok, table_of}
use Rattle.block_table.proofs.TableFits.{table_fits}
use Rattle.judge.specs.Limits.{memories_ok}
use Rattle.call.specs.Call.{World}
use Rattle.call.specs.Contract.{world}
use Rattle.image_format.specs.Rows.{rows_from, count, read_rows}
use Rattle.image_format.specs.Image.{assembled_in, cached_in, upload_start, response_start, total, header, read_entries, read_image, image_ok}
use Rattle.image_format.proofs.Rows.{read-sixteen}
use Rattle.image_format.proofs.Judged.{passes, judged, length-header, fails-header, fails-count, fails-rows}
use Rattle.image_measure.specs.Room.{Rooms}
use Rattle.image_measure.proofs.Rooms.{rooms}
use Rattle.image_reader.specs.Load.{fresh_ok, loading, loaded}

-- the table that an image describes
abbrev pub described : List ℕ → Table
described l = table_of (number_at l 24 8) (read_entries l)

pub described-is : (l : List ℕ) → described l ≡ table_of (read_image l).clock (read_image l).entries
unfolding read_image
described-is l = refl

-- what the code has read, and how it judges it
module _ (l : List ℕ) (clock : ℕ) (entries : List Entry) (time : clock ≡ number_at l 24 8) (read : entries ≡ read_entries l) where
  pub described-by : (t : Table) → t ≡ table_of clock entries → t ≡ described l
  described-by t e = rw (e, time, read)

  pub judged-by : (c : Config) (t : Table) (a b : Bool) → t ≡ table_of clock entries
      → a ≡ (same (header clock entries) (take 32 l) && same (rows_from 0 entries) (part l 32 (96 * count entries)) && eqb (length l) (total entries)) → b ≡ table_ok c t
      → (a && b) ≡ image_ok c l
  judged-by c t a b e f g = rw (f, g, e, time, read) (sym (judged c l))

-- a buffer of the header's length is the header
pub ruleset whole = (patch-whole, length-header)

-- what is no image
pub ruleset no_image = (fails-header, fails-count, fails-rows)

-- a table is given where the test passes, and only there
pub some-if : (b : Bool) (t : Table) → is_some (then_some b t) ≡ b
some-if true t = refl
some-if false t = refl

pub some-is : (b : Bool) (t : Table) {u : Table} → t ≡ u → IfSome (then_some b t) (λ s. s ≡ u)
some-is true t e = e
some-is false t e = tt

pub read_all : (l : List ℕ) (n : ℕ) (entries : List Entry) → entries ≡ read_rows (replicate 16 free) n (drop 32 l) → n ≡ number_at l 4 4 → entries ≡ read_entries l
unfolding read_entries
read_all l n entries e f = rw (e, f)

module _ (c : Config) (x : World) (l : List ℕ) where
  module _ (fresh : fresh_ok c x ≡ true) where
    module _ (right : image_ok c l ≡ true) where
      -- the memories and the image hold what the entries say
      pub room : Rooms c (read_entries l) (length x.upload) (length x.response) (length l)
      unfolding fresh_ok memories_ok image_ok read_image
      room =
          let fits = table_fits c (described l) (search ands) in
          rooms c (number_at l 24 8) (read_entries l) (read-sixteen l) (λ i h. fits.each i (omega (arith, read-sixteen l))) _ _ _
          (eqb-true _ _ (search ands)) (eqb-true _ _ (search ands)) (omega (arith, (passes c l right).long))

      -- the table that is described, and the bytes where they belong
      pub is-loaded : (u d : List ℕ) → u ≡ scattered c.upload x.upload 0 (assembled_in (read_entries l)) (drop (upload_start (read_entries l)) l)
          → d ≡ scattered c.response x.response 0 (cached_in (read_entries l)) (drop (response_start (read_entries l)) l)
          → loaded c x l ≡ loading 0 (world (described l) u d)
      unfolding loaded read_image
      is-loaded u d e f =
          let ups : List ℕ = assembled_in (read_entries l) in
          let up : u ≡ scattered c.upload x.upload 0 ups (take (sum ups) (drop (upload_start (read_entries l)) l)) = e ∙ sym (scattered-take c.upload x.upload 0 ups _) in
          let down : d ≡ scattered c.response x.response 0 (cached_in (read_entries l)) (drop (sum ups) (drop (upload_start (read_entries l)) l)) =
          f ∙ ap (scattered c.response x.response 0 (cached_in (read_entries l))) (sym (drop-drop (sum ups) (upload_start (read_entries l)) l)) in
          rw (fresh, right, up, down)
