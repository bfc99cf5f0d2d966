-- SAVING: "write the live entries to an image" (document 02).
use Rattle.std.specs.Prelude.{ℕ, cond, not, ◌&&◌, List, length, ltb, eqb}
use Rattle.pieces.specs.Memory.{patch}
use Rattle.config.specs.declared.Config.{Config}
use Rattle.gathering.specs.Gather.{gathered}
use Rattle.entries.specs.declared.Entry.{Entry}
use Rattle.entries.specs.Entries.{sweep}
use Rattle.block_table.specs.declared.Table.{Table}
use Rattle.block_table.specs.Table.{table_ok}
use Rattle.judge.specs.Limits.{config_ok, memories_ok}
use Rattle.call.specs.Call.{World}
use Rattle.image_format.specs.Image.{Image, assembled_in, cached_in, total, image_bytes}
use Rattle.image_writer.specs.declared.Saved.{Saved}

-- "Live is judged at that clock", the table's: the others are free.
abbrev pub live_entries : Config → Table → List Entry
live_entries c t = sweep c.lifetime t.clock t.entries

-- What the image of these entries holds, of two memories that have their bytes.
abbrev pub image_with : Config → ℕ → List Entry → List ℕ → List ℕ → Image
image_with c clock entries upload response =
    record {
      clock = clock;
      entries = entries;
      upload = gathered c.upload upload 0 (assembled_in entries);
      response = gathered c.response response 0 (cached_in entries);
    }

-- What the image of a table and two memories holds.
abbrev pub image_of : Config → World → Image
image_of c w = image_with c w.table.clock (live_entries c w.table) w.upload w.response

-- The length of that image.
abbrev pub needed : Config → Table → ℕ
needed c t = total (live_entries c t)

-- A refusal, or 0, and the length that is needed: 0 where that is not known.
abbrev pub saving : ℕ → ℕ → Saved
saving refusal n = record { refusal = refusal; length = n }

-- How long an output must be: 1 where the configuration or the table is off its limits.
unfoldable pub length_asked : Config → Table → Saved
length_asked c t = cond (not (config_ok c && table_ok c t)) (saving 1 0) (saving 0 (needed c t))

-- "Saving, 1, then 22 if the output is too small": what is answered, of an output of so many bytes.
unfoldable pub saved : Config → World → ℕ → Saved
saved c w room =
    cond (not (config_ok c && memories_ok c (length w.upload) (length w.response) && table_ok c w.table)) (saving 1 0)
    (cond (ltb room (needed c w.table)) (saving 22 (needed c w.table))
    (saving 0 (needed c w.table)))

-- What the output then holds: the image at its start, or what it held; "which is left untouched".
unfoldable pub output_after : Config → World → List ℕ → Saved → List ℕ
output_after c w out s = cond (eqb s.refusal 0) (patch out 0 (image_bytes (image_of c w))) out
