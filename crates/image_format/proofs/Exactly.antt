-- WHICH BYTES ARE AN IMAGE: those that are accepted, and no others. Assumes nothing.
use Prim.Native.Nat.{ℕ, zero, suc, ◌^◌, ◌≤◌, ◌<◌}
use mathlib.Core.Bool.{Bool, true, not, true≢false}
use mathlib.Core.Path.{◌≡◌, refl, sym, ap, ◌∙◌}
use mathlib.Core.List.{List, [], ◌∷◌, map}
use native.Mathlib.Nat.{pow-le-pow_right}
use native.Mathlib.Omega.{arith}
use lib.ListN.{length, take, drop, replicate, length-take, length-drop}
use borrow.Author.Tests.{eq-eqb}
use Rattle.pieces.specs.Memory.{part}
use Rattle.pieces.proofs.Tests.{ands, by_cases}
use Rattle.config.specs.declared.Config.{Config}
use Rattle.block_option.specs.Uint.{Bytes}
use Rattle.block_option.proofs.Laws.{uint-below}
use Rattle.big_endian.specs.Numbers.{number_at}
use Rattle.gathering.specs.Gather.{sum}
use Rattle.keys.specs.Lists.{all}
use Rattle.keys.specs.Keys.{key_of, stored_ok}
use Rattle.keys.proofs.Keys.{same_refl, key-stored}
use Rattle.entries.specs.declared.Entry.{Entry}
use Rattle.entries.specs.Entries.{free, holds, entry_ok, clash}
use Rattle.entries.specs.Held.{held}
use Rattle.block_table.specs.Table.{distinct, figure_ok, table_ok, table_of}
use Rattle.image_format.specs.Rows.{row_bytes, read_entry, rows_from}
use Rattle.image_format.specs.Image.{Image, assembled_in, cached_in, total, header, image_bytes, read_entries, read_image, image_ok}
use Rattle.image_format.specs.Promises.{SoundEntry, Sound, plain, plainly, ImageOf, AcceptsExactly}
use Rattle.image_format.proofs.Rows.{Every, every-same, every-at, every-read, length-stored, stored-len, read-sixteen}
use Rattle.image_format.proofs.Judged.{Passes, passes}
use Rattle.image_format.proofs.ReadBack.{key-length, free-plain, count-plain, assembled-plain, cached-plain, sound, image-long, image-back}

-- ---- what is read is sound

bytes-parts : (n : ℕ) (l : List ℕ) → Bytes l → Bytes (take n l) × Bytes (drop n l)
bytes-parts zero l h = (tt, h)
bytes-parts (suc n) [] h = (tt, tt)
bytes-parts (suc n) (b ∷ l) h = let rest = bytes-parts n l h.1 in ((h.0, rest.0), rest.1)

-- k bytes spell less than 256 ^ k
number-below : (l : List ℕ) (at k : ℕ) → Bytes l → number_at l at k < 256 ^ k
unfolding number_at part
number-below l at k h =
    let cut : List ℕ = take k (drop at l) in
    let few : length cut ≤ k = simp length-take (omega arith) in
    let wide : 256 ^ length cut ≤ 256 ^ k = pow-le-pow_right (omega arith) few in
    omega (arith, uint-below cut (bytes-parts k (drop at l) (bytes-parts at l h).1).0)

entry-sound : (row : List ℕ) → Bytes row → SoundEntry (read_entry row)
unfolding read_entry part
entry-sound row h =
    record {
      key = length-stored _ (simp length-take (omega arith));
      len = simp (stored-len, length-take) (omega arith);
      num = number-below row 8 4 h;
      assembled = number-below row 12 4 h;
      payload = number-below row 16 4 h;
      touched = number-below row 24 8 h;
      unused = λ e. absurd (true≢false e);
    }

pub free-sound : SoundEntry free
free-sound =
    record {
      key = refl;
      len = omega arith;
      num = omega arith;
      assembled = omega arith;
      payload = omega arith;
      touched = omega arith;
      unused = λ e. refl;
    }

read-sound : (l : List ℕ) → Bytes l → Every SoundEntry (read_entries l)
unfolding read_entries
read-sound l h =
    every-read SoundEntry Bytes bytes-parts entry-sound (replicate 16 free) (number_at l 4 4) (drop 32 l) (every-same SoundEntry 16 free free-sound)
    (bytes-parts 32 l h).1

-- the bytes behind the rows are as many as the entries say
pub upload-long : (l : List ℕ) → Passes l → length (read_image l).upload ≡ sum (assembled_in (read_image l).entries)
unfolding read_image
upload-long l p = simp (length-take, length-drop) (omega (arith, p.long))

pub response-long : (l : List ℕ) → Passes l → length (read_image l).response ≡ sum (cached_in (read_image l).entries)
unfolding read_image
response-long l p = simp length-drop (omega (arith, p.long))

pub accepted : (c : Config) (l : List ℕ) → Bytes l → image_ok c l ≡ true → ImageOf c l (read_image l)
unfolding image_ok read_image
accepted c l h ok =
    let p = passes c l ok in
    record {
      bytes = sym p.is;
      sound = record {
        clock = number-below l 24 8 h;
        sixteen = read-sixteen l;
        each = λ i b. every-at SoundEntry (read_entries l) (read-sound l h) i (omega (arith, read-sixteen l));
        upload = upload-long l p;
        response = response-long l p;
      };
      table = search ands;
    }

-- ---- zeros behind a key change nothing that is written or judged

module _ (e : Entry) (s : SoundEntry e) where
  row_plain : (i : ℕ) → row_bytes i (plain e) ≡ row_bytes i e
  unfolding row_bytes
  row_plain i = rw (key-stored (key_of e.key), stored-len (key_of e.key), key-length e s)

  entry-plain : (c : Config) (clock : ℕ) → entry_ok c clock (plain e) ≡ entry_ok c clock e
  unfolding entry_ok stored_ok
  entry-plain c clock =
      by_cases e.used (λ u. rw (u, stored-len (key_of e.key), key-length e s))
      (λ n.
      let q : e ≡ free = s.unused n in
      ap (λ (x : Entry). entry_ok c clock (plain x)) q ∙ ap (entry_ok c clock) free-plain ∙ sym (ap (entry_ok c clock) q))

clash-plain : (e f : Entry) → clash (plain e) (plain f) ≡ clash e f
unfolding clash holds
clash-plain e f = rw (key-stored (key_of e.key), key-stored (key_of f.key))

rows-plain : (l : List Entry) (i : ℕ) → Every SoundEntry l → rows_from i (map plain l) ≡ rows_from i l
rows-plain [] i s = refl
rows-plain (e ∷ l) i s = rw (row_plain e s.0 i, rows-plain l (suc i) s.1)

all_plain : (p q : Entry → Bool) → ((e : Entry) → SoundEntry e → p (plain e) ≡ q e) → (l : List Entry) → Every SoundEntry l → all p (map plain l) ≡ all q l
all_plain p q h [] s = refl
all_plain p q h (e ∷ l) s = rw (h e s.0, all_plain p q h l s.1)

distinct-plain : (l : List Entry) → Every SoundEntry l → distinct (map plain l) ≡ distinct l
unfolding distinct
distinct-plain [] s = refl
distinct-plain (e ∷ l) s =
    rw (
      all_plain (λ f. not (clash (plain e) f)) (λ f. not (clash e f)) (λ f h. ap not (clash-plain e f)) l s.1,
      distinct-plain l s.1,
    )

pub table-plain : (c : Config) (clock : ℕ) (l : List Entry) → Every SoundEntry l → table_ok c (table_of clock (map plain l)) ≡ table_ok c (table_of clock l)
unfolding table_ok figure_ok
table-plain c clock l s =
    rw (
      all_plain (entry_ok c clock) (entry_ok c clock) (λ e h. entry-plain e h c clock) l s,
      distinct-plain l s,
      eq-eqb (held (map plain l)) (held (map plain l)) refl,
      eq-eqb (held l) (held l) refl,
    )

total-plain : (l : List Entry) → total (map plain l) ≡ total l
total-plain l = rw (count-plain l, assembled-plain l, cached-plain l)

pub bytes-plain : (k : Image) → Sound k → image_bytes (plainly k) ≡ image_bytes k
unfolding image_bytes header
bytes-plain k s = rw (count-plain k.entries, assembled-plain k.entries, cached-plain k.entries, rows-plain k.entries 0 (sound k s))

pub accepts : (c : Config) (l : List ℕ) (k : Image) → ImageOf c l k → image_ok c l ≡ true
unfolding image_ok
accepts c l k i =
    let s = i.sound in
    rw (
      i.bytes,
      image-back k s,
      bytes-plain k s,
      same_refl (image_bytes k),
      total-plain k.entries,
      eq-eqb (length (image_bytes k)) (total k.entries) (image-long k s),
      table-plain c k.clock k.entries (sound k s),
    )
    i.table

pub accepts-exactly : AcceptsExactly
unfolding AcceptsExactly
accepts-exactly c l h = (λ ok. (read_image l, accepted c l h ok), λ k. accepts c l k.0 k.1)
