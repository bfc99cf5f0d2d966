-- THE IMAGE OF PENDING TRANSFERS (document 02): a header, a row for each entry in use, their upload bytes, their response bytes, "with no gap". What it holds is one
-- thing, the bytes that this is written as another: `image_bytes` writes, `read_image` reads.
use Rattle.std.specs.Prelude.{ℕ, ◌+◌, ◌*◌, Bool, ◌&&◌, List, ◌++◌, map, length, take, drop, replicate, eqb}
use Rattle.config.specs.declared.Config.{Config}
use Rattle.big_endian.specs.Numbers.{in_bytes, number_at}
use Rattle.gathering.specs.Gather.{sum}
use Rattle.keys.specs.Keys.{same}
use Rattle.entries.specs.declared.Entry.{Entry}
use Rattle.entries.specs.Entries.{free}
use Rattle.block_table.specs.Table.{table_ok, table_of}
use Rattle.image_format.specs.Rows.{rows_from, count, read_rows}

-- What an image holds: the last clock, the sixteen entries, the upload bytes of the entries in their order, and the response bytes.
pub record Image : Type 0 where
  pub clock : ℕ
  pub entries : List Entry
  pub upload : List ℕ
  pub response : List ℕ

-- ---- Where its parts start

-- How many upload bytes and response bytes (head and payload of a cached response) each entry has: none where it is free.
abbrev pub assembled_in : List Entry → List ℕ
assembled_in = map (λ e. e.state.assembled.len)

abbrev pub cached_in : List Entry → List ℕ
cached_in = map (λ e. e.state.cached.head + e.state.cached.payload)

abbrev pub upload_start : List Entry → ℕ
upload_start entries = 32 + 96 * count entries

abbrev pub response_start : List Entry → ℕ
response_start entries = upload_start entries + sum (assembled_in entries)

abbrev pub total : List Entry → ℕ
total entries = response_start entries + sum (cached_in entries)

-- ---- Writing

-- Form (1), number of entries, where the rows (32), the upload bytes and the response bytes start, the total length: 4 bytes each. The last clock: 8 bytes.
unfoldable pub header : ℕ → List Entry → List ℕ
header clock entries =
    in_bytes 4 1 ++ (in_bytes 4 (count entries) ++ (in_bytes 4 32 ++ (in_bytes 4 (upload_start entries) ++ (in_bytes 4 (response_start entries)
    ++ (in_bytes 4 (total entries) ++ in_bytes 8 clock)))))

unfoldable pub image_bytes : Image → List ℕ
image_bytes k = header k.clock k.entries ++ (rows_from 0 k.entries ++ (k.upload ++ k.response))

-- ---- Reading

-- The rows are read into sixteen free entries. A row whose number is no entry's is lost.
unfoldable pub read_entries : List ℕ → List Entry
read_entries l = read_rows (replicate 16 free) (number_at l 4 4) (drop 32 l)

unfoldable pub read_image : List ℕ → Image
read_image l =
    let entries = read_entries l in
    let bytes = drop (upload_start entries) l in
    let n = sum (assembled_in entries) in
    record { clock = number_at l 24 8; entries = entries; upload = take n bytes; response = drop n bytes }

-- "12 if counts, offsets or rows disagree": an image must be the very bytes that what is read from it is written as, and as long as its total. So every byte of its header and
-- rows is fixed: the form, each count and offset, the order of the rows, each flag and each zero. "Or describe a table that 01 calls off the limits."
unfoldable pub image_ok : Config → List ℕ → Bool
image_ok c l =
    let k = read_image l in
    same (image_bytes k) l && eqb (length l) (total k.entries) && table_ok c (table_of k.clock k.entries)
