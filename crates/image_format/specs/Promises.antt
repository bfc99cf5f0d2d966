-- WHAT IS PROMISED OF IMAGES: where their parts stand, that reading is the inverse of writing, and which bytes are an image. (proofs/)
use Rattle.std.specs.Prelude.{ℕ, ◌*◌, ◌^◌, ◌≤◌, ◌<◌, true, false, ◌≡◌, ◌↔◌, List, map, length}
use Rattle.pieces.specs.Memory.{part}
use Rattle.config.specs.declared.Config.{Config}
use Rattle.block_option.specs.Uint.{Bytes}
use Rattle.big_endian.specs.Numbers.{number_at}
use Rattle.gathering.specs.Gather.{sum}
use Rattle.keys.specs.Keys.{key_of, stored}
use Rattle.entries.specs.declared.Entry.{Entry}
use Rattle.entries.specs.Entries.{free}
use Rattle.block_table.specs.Table.{at, table_ok, table_of}
use Rattle.image_format.specs.Rows.{rows_from, count}
use Rattle.image_format.specs.Image.{Image, assembled_in, cached_in, upload_start, response_start, total, image_bytes, read_image, image_ok}

-- What the types give of an entry, a key's length that is no more than its bytes, and that a free entry is zeros.
pub record SoundEntry (e : Entry) : Type 0 where
  pub key : length e.key.bytes ≡ 64
  pub len : e.key.len ≤ 64
  pub num : e.state.recorded.num < 2 ^ 32
  pub assembled : e.state.assembled.len < 2 ^ 32
  pub payload : e.state.cached.payload < 2 ^ 32
  pub touched : e.touched < 2 ^ 64
  pub unused : e.used ≡ false → e ≡ free

-- The same of sixteen entries and the clock; and the bytes are as many as the entries say.
pub record Sound (k : Image) : Type 0 where
  pub clock : k.clock < 2 ^ 64
  pub sixteen : length k.entries ≡ 16
  pub each : (i : ℕ) → i < 16 → SoundEntry (at k.entries i)
  pub upload : length k.upload ≡ sum (assembled_in k.entries)
  pub response : length k.response ≡ sum (cached_in k.entries)

-- ---- Where its parts stand

-- The header's numbers are what they are said to be: the form, the number of rows, where each part starts, the total, the clock. And each part starts there, with no gap.
pub record Laid (k : Image) (l : List ℕ) : Type 0 where
  pub form : number_at l 0 4 ≡ 1
  pub number : number_at l 4 4 ≡ count k.entries
  pub rows_start : number_at l 8 4 ≡ 32
  pub upload-start : number_at l 12 4 ≡ upload_start k.entries
  pub response-start : number_at l 16 4 ≡ response_start k.entries
  pub total-is : number_at l 20 4 ≡ total k.entries
  pub clock : number_at l 24 8 ≡ k.clock
  pub rows : part l 32 (96 * count k.entries) ≡ rows_from 0 k.entries
  pub upload : part l (upload_start k.entries) (sum (assembled_in k.entries)) ≡ k.upload
  pub response : part l (response_start k.entries) (sum (cached_in k.entries)) ≡ k.response
  pub long : length l ≡ total k.entries

-- Of every image whose total has 32 bits. (Those of a table within the limits have: crate updates.)
unfoldable pub PartsStand : Type 0
PartsStand = (k : Image) → Sound k → total k.entries < 2 ^ 32 → Laid k (image_bytes k)

-- ---- Reading back

-- An entry whose key has zeros behind it. Nothing else of it changes.
abbrev pub plain : Entry → Entry
plain e = record { key = stored (key_of e.key); used = e.used; touched = e.touched; state = e.state }

abbrev pub plainly : Image → Image
plainly k = record { clock = k.clock; entries = map plain k.entries; upload = k.upload; response = k.response }

-- READING IS THE INVERSE OF WRITING, but for bytes behind a key: they come back as zeros.
unfoldable pub ReadsBack : Type 0
ReadsBack = (k : Image) → Sound k → read_image (image_bytes k) ≡ plainly k

-- ---- Which bytes are an image

-- The bytes are those of this image, whose table is within document 01's limits.
pub record ImageOf (c : Config) (l : List ℕ) (k : Image) : Type 0 where
  pub bytes : l ≡ image_bytes k
  pub sound : Sound k
  pub table : table_ok c (table_of k.clock k.entries) ≡ true

-- EXACTLY the bytes of such images are accepted: no others, and none of them is left out.
unfoldable pub AcceptsExactly : Type 0
AcceptsExactly = (c : Config) (l : List ℕ) → Bytes l → (image_ok c l ≡ true) ↔ ((k : Image) × ImageOf c l k)
