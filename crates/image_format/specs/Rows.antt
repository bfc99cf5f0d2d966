-- A row of an image: the 96 bytes of one entry in use. All numbers are big-endian.
use Rattle.std.specs.Prelude.{ℕ, zero, suc, Bool, true, cond, List, [], ◌∷◌, ◌++◌, take, drop, get_or, set, eqb}
use Rattle.pieces.specs.Memory.{part}
use Rattle.big_endian.specs.Numbers.{in_bytes, number_at}
use Rattle.keys.specs.Keys.{key_of, stored}
use Rattle.entries.specs.declared.Entry.{Entry}

-- A flag is 0 or 1.
abbrev pub flag : Bool → ℕ
flag b = cond b 1 0

-- Recorded num, assembled length, cached payload's length, zeros: 4 bytes each. Touch time: 8 bytes.
abbrev pub row_numbers : Entry → List ℕ
row_numbers e =
    in_bytes 4 e.state.recorded.num ++ (in_bytes 4 e.state.assembled.len ++ (in_bytes 4 e.state.cached.payload ++ (in_bytes 4 0 ++ in_bytes 8 e.touched)))

-- Entry number, key length, exponent kept, cached, head length, recorded, recorded more, recorded exponent: 1 byte each. Then those numbers. Then the key: 64 bytes, "zeros past its
-- length".
unfoldable pub row_bytes : ℕ → Entry → List ℕ
row_bytes i e =
    (i ∷ e.key.len ∷ e.state.assembled.exponent ∷ flag e.state.cached.held ∷ e.state.cached.head
    ∷ flag e.state.recorded.given ∷ flag e.state.recorded.more ∷ e.state.recorded.exponent ∷ [])
    ++ (row_numbers e ++ (stored (key_of e.key)).bytes)

-- The entry that a row tells of. Its number is the row's first byte.
unfoldable pub read_entry : List ℕ → Entry
read_entry l =
    record {
      key = stored (take (get_or l 1 0) (part l 32 64));
      used = true;
      touched = number_at l 24 8;
      state = record {
        assembled = record { len = number_at l 12 4; exponent = get_or l 2 0 };
        cached = record { held = eqb (get_or l 3 0) 1; head = get_or l 4 0; payload = number_at l 16 4 };
        recorded = record { given = eqb (get_or l 5 0) 1; more = eqb (get_or l 6 0) 1; exponent = get_or l 7 0; num = number_at l 8 4 };
      };
    }

-- ---- The rows of a table, "by rising entry number": those of the entries in use, the first of which has number i

abbrev pub rows_from : ℕ → List Entry → List ℕ
rows_from i [] = []
rows_from i (e ∷ rest) = cond e.used (row_bytes i e ++ rows_from (suc i) rest) (rows_from (suc i) rest)

-- How many there are.
abbrev pub count : List Entry → ℕ
count [] = 0
count (e ∷ rest) = cond e.used (suc (count rest)) (count rest)

-- The entries with n rows read into them, one after another.
abbrev pub read_rows : List Entry → ℕ → List ℕ → List Entry
read_rows entries zero l = entries
read_rows entries (suc n) l = read_rows (set entries (get_or l 0 0) (read_entry (take 96 l))) n (drop 96 l)
