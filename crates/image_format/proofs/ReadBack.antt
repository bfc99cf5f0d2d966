-- What is written reads back, and stands where the header says. Assumes nothing.
use Prim.Native.Nat.{ℕ, suc, ◌+◌, ◌*◌, ◌^◌, ◌≤◌, ◌<◌}
use mathlib.Core.Bool.{Bool, true, false}
use mathlib.Core.Path.{◌≡◌, refl, sym, ap, ap₂, ◌∙◌}
use mathlib.Core.List.{List, [], ◌∷◌, ◌++◌, map, append_assoc, append-nil}
use native.Mathlib.Omega.{arith}
use lib.Dec.{eqb}
use lib.ListN.{length, take, drop, get_or, set, replicate, length-append}
use lib.Seq.{take_all, take_at, drop_at, set_at, append_snoc, length-take-le}
use Rattle.pieces.specs.Memory.{part}
use Rattle.pieces.proofs.Tests.{by_cases}
use Rattle.big_endian.specs.Numbers.{in_bytes, number_at}
use Rattle.big_endian.proofs.Numbers.{part-here, drop-on, number-here}
use Rattle.gathering.specs.Gather.{sum}
use Rattle.keys.specs.Keys.{key_of, stored}
use Rattle.entries.specs.declared.Entry.{Entry}
use Rattle.entries.specs.Entries.{free}
use Rattle.image_format.specs.Rows.{flag, row_bytes, read_entry, rows_from, count, read_rows}
use Rattle.image_format.specs.Image.{Image, assembled_in, cached_in, upload_start, response_start, total, header, image_bytes, read_entries, read_image}
use Rattle.image_format.specs.Promises.{SoundEntry, Sound, Laid, PartsStand, plain, plainly, ReadsBack}
use Rattle.image_format.proofs.Rows.{Every, at_every, every-every, Short, length-stored, length-row, rows-used, rows-unused, rows_long, count-used, count-unused, count_most}
use Rattle.image_format.proofs.Judged.{length-header, header-count}

-- ---- one row

flag-back : (b : Bool) → eqb (flag b) 1 ≡ b
flag-back true = refl
flag-back false = refl

module _ (e : Entry) (s : SoundEntry e) where
  -- a key is as long as it says
  pub key-length : length (key_of e.key) ≡ e.key.len
  unfolding key_of
  key-length = length-take-le e.key.len e.key.bytes (omega (arith, s.key, s.len))

  pub sound-short : Short e
  sound-short = omega (arith, key-length, s.len)

  module _ (i : ℕ) where
    row-key : take e.key.len (part (row_bytes i e) 32 64) ≡ key_of e.key
    unfolding row_bytes in_bytes part stored
    row-key =
        ap (take e.key.len) (take_all 64 (stored (key_of e.key)).bytes (omega (arith, length-stored (key_of e.key) sound-short)))
        ∙ take_at (key_of e.key) _ e.key.len key-length

    pub row_back : e.used ≡ true → read_entry (row_bytes i e) ≡ plain e
    unfolding read_entry row_bytes in_bytes
    row_back u =
        let row : List ℕ = row_bytes i e in
        let num : number_at row 8 4 ≡ e.state.recorded.num = number-here row _ 8 4 _ refl s.num in
        let assembled : number_at row 12 4 ≡ e.state.assembled.len = number-here row _ 12 4 _ refl s.assembled in
        let payload : number_at row 16 4 ≡ e.state.cached.payload = number-here row _ 16 4 _ refl s.payload in
        let touched : number_at row 24 8 ≡ e.touched = number-here row _ 24 8 _ refl s.touched in
        λ j. record {
          key = stored (row-key j);
          used = sym u j;
          touched = touched j;
          state = record {
            assembled = record { len = assembled j; exponent = e.state.assembled.exponent };
            cached = record { held = flag-back e.state.cached.held j; head = e.state.cached.head; payload = payload j };
            recorded = record {
              given = flag-back e.state.recorded.given j;
              more = flag-back e.state.recorded.more j;
              exponent = e.state.recorded.exponent;
              num = num j;
            };
          };
        }

-- ---- all rows

pub free-plain : plain free ≡ free
unfolding key_of stored
free-plain = refl

-- a row of an entry in use sets the entry of its number
first_byte : (i : ℕ) (e : Entry) (rest : List ℕ) → get_or (row_bytes i e ++ rest) 0 0 ≡ i
unfolding row_bytes
first_byte i e rest = refl

one-row : (all : List Entry) (i n : ℕ) (e : Entry) (rest : List ℕ) → SoundEntry e → e.used ≡ true
    → read_rows all (suc n) (row_bytes i e ++ rest) ≡ read_rows (set all i (plain e)) n rest
one-row all i n e rest s u =
    let long = length-row i e (sound-short e s) in
    rw (first_byte i e rest, take_at (row_bytes i e) rest 96 long, drop_at (row_bytes i e) rest 96 long, row_back e s i u)

-- rows read into the free entries behind those that are there
rows_back : (done l : List Entry) (i : ℕ) (tail : List ℕ) → length done ≡ i → Every SoundEntry l
    → read_rows (done ++ replicate (length l) free) (count l) (rows_from i l ++ tail) ≡ done ++ map plain l
rows_back done [] i tail h s = refl
rows_back done (e ∷ l) i tail h s =
    let left : List Entry = replicate (length l) free in
    let rows : List ℕ = rows_from (suc i) l ++ tail in
    let one : (x : Entry) → length (done ++ (x ∷ [])) ≡ suc i = λ x. length-append done (x ∷ []) ∙ omega arith in
    let more : (x : Entry) → read_rows (done ++ (x ∷ left)) (count l) rows ≡ done ++ (x ∷ map plain l) = λ x.
    ap (λ (all : List Entry). read_rows all (count l) rows) (sym (append_snoc done x left)) ∙ rows_back (done ++ (x ∷ [])) l (suc i) tail (one x) s.1
    ∙ append_snoc done x (map plain l) in
    by_cases e.used
    (λ u.
    let bytes : rows_from i (e ∷ l) ++ tail ≡ row_bytes i e ++ rows =
    ap (λ (x : List ℕ). x ++ tail) (rows-used e l i u) ∙ append_assoc (row_bytes i e) (rows_from (suc i) l) tail in
    ap₂ (read_rows (done ++ (free ∷ left))) (count-used e l u) bytes ∙ one-row (done ++ (free ∷ left)) i (count l) e rows s.0 u
    ∙ ap (λ (all : List Entry). read_rows all (count l) rows) (set_at done free left (plain e) i h) ∙ more (plain e))
    (λ n.
    ap₂ (read_rows (done ++ (free ∷ left))) (count-unused e l n) (ap (λ (x : List ℕ). x ++ tail) (rows-unused e l i n)) ∙ more free
    ∙ ap (λ (x : Entry). done ++ (x ∷ map plain l)) (sym (ap plain (s.0.unused n) ∙ free-plain)))

-- ---- zeros behind a key change no number

pub count-plain : (l : List Entry) → count (map plain l) ≡ count l
count-plain [] = refl
count-plain (e ∷ l) = rw (count-plain l)

lengths-plain : (f : Entry → ℕ) → ((e : Entry) → f (plain e) ≡ f e) → (l : List Entry) → map f (map plain l) ≡ map f l
lengths-plain f h [] = refl
lengths-plain f h (e ∷ l) = rw (h e, lengths-plain f h l)

pub assembled-plain : (l : List Entry) → assembled_in (map plain l) ≡ assembled_in l
assembled-plain = lengths-plain (λ e. e.state.assembled.len) (λ e. refl)

pub cached-plain : (l : List Entry) → cached_in (map plain l) ≡ cached_in l
cached-plain = lengths-plain (λ e. e.state.cached.head + e.state.cached.payload) (λ e. refl)

-- ---- an image

module _ (k : Image) (s : Sound k) where
  abbrev bytes : List ℕ
  bytes = image_bytes k

  abbrev all : List Entry
  all = k.entries

  abbrev tail : List ℕ
  tail = k.upload ++ k.response

  pub sound : Every SoundEntry all
  sound = at_every SoundEntry all (λ i h. s.each i (omega (arith, s.sixteen)))

  short : Every Short all
  short = every-every SoundEntry Short sound-short all sound

  few : count all ≤ 16
  few = omega (arith, count_most all, s.sixteen)

  clock-back : number_at bytes 24 8 ≡ k.clock
  unfolding image_bytes header in_bytes
  clock-back = number-here bytes _ 24 8 k.clock refl s.clock

  from-rows : drop 32 bytes ≡ rows_from 0 all ++ tail
  unfolding image_bytes header in_bytes
  from-rows = refl

  from-upload : drop (upload_start all) bytes ≡ tail
  from-upload = drop-on bytes (rows_from 0 all) tail 32 (96 * count all) from-rows (rows_long all 0 short)

  from-response : drop (response_start all) bytes ≡ k.response
  from-response = drop-on bytes k.upload k.response (upload_start all) (sum (assembled_in all)) from-upload s.upload

  pub image-long : length bytes ≡ total all
  unfolding image_bytes
  image-long = simp (length-append, length-header) (omega (arith, rows_long all 0 short, s.upload, s.response))

  pub entries-back : read_entries bytes ≡ map plain all
  unfolding read_entries
  entries-back =
      let blank : replicate 16 free ≡ replicate (length all) free = ap (λ (n : ℕ). replicate n free) (sym s.sixteen) in
      rw (header-count k (omega (arith, few)), from-rows, blank) (rows_back [] all 0 tail refl sound)

  pub image-back : read_image bytes ≡ plainly k
  unfolding read_image
  image-back =
      rw (
        clock-back,
        entries-back,
        count-plain all,
        assembled-plain all,
        from-upload,
        take_at k.upload k.response (sum (assembled_in all)) s.upload,
        drop_at k.upload k.response (sum (assembled_in all)) s.upload,
      )

  pub image-laid : total all < 2 ^ 32 → Laid k bytes
  unfolding image_bytes header in_bytes
  image-laid h =
      record {
        form = number-here bytes _ 0 4 1 refl (omega arith);
        number = header-count k (omega (arith, few));
        rows_start = number-here bytes _ 8 4 32 refl (omega arith);
        upload-start = number-here bytes _ 12 4 (upload_start all) refl (omega arith);
        response-start = number-here bytes _ 16 4 (response_start all) refl (omega arith);
        total-is = number-here bytes _ 20 4 (total all) refl h;
        clock = clock-back;
        rows = part-here bytes (rows_from 0 all) tail 32 (96 * count all) from-rows (rows_long all 0 short);
        upload = part-here bytes k.upload k.response (upload_start all) (sum (assembled_in all)) from-upload s.upload;
        response = part-here bytes k.response [] (response_start all) (sum (cached_in all)) (from-response ∙ sym (append-nil k.response)) s.response;
        long = image-long;
      }

pub reads-back : ReadsBack
unfolding ReadsBack
reads-back = image-back

pub parts-stand : PartsStand
unfolding PartsStand
parts-stand = image-laid
