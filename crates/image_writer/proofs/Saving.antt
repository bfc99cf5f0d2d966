-- An image is put part by part; and what saving comes to, by its cases. Assumes nothing.
use Prim.Native.Nat.{ℕ, ◌≤◌}
use mathlib.Core.Bool.{Bool, true, ◌&&◌}
use mathlib.Core.Path.{◌≡◌, sym, ◌∙◌}
use mathlib.Core.List.{List}
use native.Mathlib.Omega.{arith}
use lib.ListN.{length}
use borrow.Author.Tests.{eqb-true}
use Rattle.pieces.specs.Memory.{patch, Put}
use Rattle.pieces.proofs.Puts.{put_then}
use Rattle.pieces.proofs.Tests.{ands}
use Rattle.config.specs.declared.Config.{Config}
use Rattle.gathering.specs.Gather.{gathered}
use Rattle.entries.specs.declared.Entry.{Entry}
use Rattle.block_table.specs.Table.{table_ok}
use Rattle.block_table.proofs.TableFits.{table_fits, row_ok}
use Rattle.block_table.proofs.Row.{length-sweep}
use Rattle.judge.specs.Limits.{config_ok, memories_ok}
use Rattle.call.specs.Call.{World}
use Rattle.image_format.specs.Rows.{rows_from}
use Rattle.image_format.specs.Image.{assembled_in, cached_in, header, image_bytes}
use Rattle.image_measure.specs.Room.{Rooms}
use Rattle.image_measure.proofs.Rooms.{rooms}
use Rattle.image_writer.specs.Save.{live_entries, image_with, needed}

-- the header, the rows, the upload bytes and the response bytes, one after another
pub image-put : (c : Config) (clock : ℕ) (entries : List Entry) (upload response : List ℕ) {m m₁ : List ℕ} {a : ℕ} {m₂ : List ℕ} {b : ℕ} {m₃ : List ℕ} {d : ℕ} {m₄ : List ℕ} {e : ℕ}
    → Put m 0 (header clock entries) m₁ a → Put m₁ a (rows_from 0 entries) m₂ b → Put m₂ b (gathered c.upload upload 0 (assembled_in entries)) m₃ d
    → Put m₃ d (gathered c.response response 0 (cached_in entries)) m₄ e → m₄ ≡ patch m 0 (image_bytes (image_with c clock entries upload response))
unfolding image_bytes
image-put c clock entries upload response head rows ups downs = (put_then head (put_then rows (put_then ups downs))).is

-- ---- saving

module _ (c : Config) (w : World) (out : List ℕ) where
  abbrev limits : Bool
  limits = config_ok c && memories_ok c (length w.upload) (length w.response) && table_ok c w.table

  module _ (inside : limits ≡ true) (n : ℕ) (is : n ≡ needed c w.table) where
    -- the memories have what the live entries have, and the output has room for the image
    pub room : length (live_entries c w.table) ≡ 16 → n ≤ length out → Rooms c (live_entries c w.table) (length w.upload) (length w.response) (length out)
    unfolding memories_ok
    room sixteen h =
        let clock : ℕ = w.table.clock in
        let n16 : length w.table.entries ≡ 16 = sym (length-sweep c.lifetime clock w.table.entries) ∙ sixteen in
        rooms c clock (live_entries c w.table) sixteen (row_ok c w.table clock (table_fits c w.table (search ands)) n16 (omega arith)) _ _ _
        (eqb-true _ _ (search ands)) (eqb-true _ _ (search ands)) (omega (arith, is))
