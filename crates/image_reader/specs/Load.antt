-- LOADING: an image "into a fresh table" (document 02).
use Rattle.std.specs.Prelude.{ℕ, Bool, cond, not, ◌&&◌, List, length, eqb, Result, Ok, Err}
use Rattle.config.specs.declared.Config.{Config}
use Rattle.gathering.specs.Gather.{scattered}
use Rattle.keys.specs.Lists.{all}
use Rattle.entries.specs.Entries.{unused}
use Rattle.block_table.specs.declared.Table.{Table}
use Rattle.block_table.specs.Table.{table_ok, table_of}
use Rattle.judge.specs.Limits.{config_ok, memories_ok}
use Rattle.call.specs.Call.{World}
use Rattle.image_format.specs.Image.{Image, assembled_in, cached_in, read_image, image_ok}
use Rattle.image_reader.specs.declared.LoadRefusal.{LoadRefusal}
use Rattle.image_reader.specs.declared.LoadRefusal.TheVariants.{NotFresh, NotRight}

-- "A fresh table is empty with clock 0" (document 01), and within its limits.
unfoldable pub is_fresh : Config → Table → Bool
is_fresh c t = table_ok c t && (all unused t.entries && eqb t.clock 0)

-- "1 if the table isn't fresh", or if the configuration or a memory is off its limits.
unfoldable pub fresh_ok : Config → World → Bool
fresh_ok c x = config_ok c && memories_ok c (length x.upload) (length x.response) && is_fresh c x.table

-- What an image makes of a fresh table and two memories: the entries stand where they stood, with their bytes at the start of their pieces, and the figure is counted anew.
abbrev pub world_of : Config → World → Image → World
world_of c x k =
    record {
      table = table_of k.clock k.entries;
      upload = scattered c.upload x.upload 0 (assembled_in k.entries) k.upload;
      response = scattered c.response x.response 0 (cached_in k.entries) k.response;
    }

-- A refusal, or 0, and the table and memories that are left.
pub record Loading : Type 0 where
  pub refusal : ℕ
  pub world : World

abbrev pub loading : ℕ → World → Loading
loading n w = record { refusal = n; world = w }

-- "1 .., then 12 .., table and memories left untouched."
unfoldable pub loaded : Config → World → List ℕ → Loading
loaded c x l = cond (not (fresh_ok c x)) (loading 1 x) (cond (not (image_ok c l)) (loading 12 x) (loading 0 (world_of c x (read_image l))))

-- ---- What a call gives

abbrev pub number : LoadRefusal → ℕ
number NotFresh = 1
number NotRight = 12

-- 0 for a table that is loaded.
abbrev pub refusal_of : Result Table LoadRefusal → ℕ
refusal_of (Ok new) = 0
refusal_of (Err refusal) = number refusal

-- The table that is left: the new one, or the one before.
abbrev pub table_left : Table → Result Table LoadRefusal → Table
table_left table (Ok new) = new
table_left table (Err refusal) = table
