-- HOW AN IMAGE IS JUDGED: part by part; and what is known of one that passes. Assumes nothing.
use Prim.Native.Nat.{ℕ, ◌+◌, ◌*◌, ◌^◌, ◌≤◌, ◌<◌}
use mathlib.Core.Bool.{true, false, ◌&&◌, and_assoc, and-true}
use mathlib.Core.Path.{◌≡◌, refl, sym, ap, ◌∙◌}
use mathlib.Core.List.{List, [], ◌∷◌, ◌++◌}
use native.Mathlib.Omega.{arith}
use lib.Dec.{leb, eqb}
use lib.ListN.{length, take, drop, take-append-drop}
use lib.Seq.{drop-drop}
use borrow.Author.Tests.{leb-false, eqb-true}
use Rattle.pieces.specs.Memory.{part}
use Rattle.pieces.proofs.Tests.{ands, refute}
use Rattle.config.specs.declared.Config.{Config}
use Rattle.big_endian.specs.Numbers.{in_bytes, number_at}
use Rattle.big_endian.proofs.Numbers.{number-here}
use Rattle.keys.specs.Keys.{Name, same}
use Rattle.keys.proofs.Keys.{same_refl, same-eq}
use Rattle.entries.specs.declared.Entry.{Entry}
use Rattle.block_table.specs.Table.{table_ok, table_of}
use Rattle.image_format.specs.Rows.{rows_from, count}
use Rattle.image_format.specs.Image.{Image, header, image_bytes, read_entries, read_image, image_ok, upload_start, total}
use Rattle.image_format.proofs.Rows.{rows_long, count_most, read-sixteen, read_short}

-- bytes in two parts are the same as others if each part is
same-append : (a b l : Name) → same (a ++ b) l ≡ (same a (take (length a) l) && same b (drop (length a) l))
unfolding same
same-append [] b l = refl
same-append (x ∷ a) b [] = refl
same-append (x ∷ a) b (y ∷ l) = rw (same-append a b l) (sym (and_assoc (eqb x y) _ _))

pub same_parts : (a b l : Name) (n : ℕ) → length a ≡ n → same (a ++ b) l ≡ (same a (take n l) && same b (drop n l))
same_parts a b l n h = rw (← h) (same-append a b l)

pub length-header : (clock : ℕ) (l : List Entry) → length (header clock l) ≡ 32
unfolding header in_bytes
length-header clock l = refl

-- the number of entries stands behind the form
pub header-count : (k : Image) → count k.entries < 256 ^ 4 → number_at (image_bytes k) 4 4 ≡ count k.entries
unfolding image_bytes header in_bytes
header-count k h = number-here (image_bytes k) _ 4 4 (count k.entries) refl h

-- what is known of an image that passes
pub record Passes (l : List ℕ) : Type 0 where
  pub is : image_bytes (read_image l) ≡ l
  pub long : length l ≡ total (read_entries l)
  pub number : number_at l 4 4 ≡ count (read_entries l)
  pub few : count (read_entries l) ≤ 16
  pub header-there : 32 ≤ length l
  pub rows-there : 32 + 96 * number_at l 4 4 ≤ length l

-- the bytes behind the rows are written as they were read
rewritten : (l : List ℕ) → image_bytes (read_image l) ≡ header (number_at l 24 8) (read_entries l) ++ (rows_from 0 (read_entries l) ++ drop (upload_start (read_entries l)) l)
unfolding image_bytes read_image
rewritten l = rw (take-append-drop)

same-image : (l : List ℕ) → same (image_bytes (read_image l)) l
    ≡ (same (header (number_at l 24 8) (read_entries l)) (take 32 l) && same (rows_from 0 (read_entries l)) (part l 32 (96 * count (read_entries l))))
unfolding part
same-image l =
    let rows : List ℕ = rows_from 0 (read_entries l) in
    let tail : List ℕ = drop (upload_start (read_entries l)) l in
    let n : ℕ = 96 * count (read_entries l) in
    let behind : drop n (drop 32 l) ≡ tail = drop-drop n 32 l in
    rw (
      rewritten l,
      same_parts (header (number_at l 24 8) (read_entries l)) (rows ++ tail) l 32 (length-header (number_at l 24 8) (read_entries l)),
      same_parts rows tail (drop 32 l) n (rows_long (read_entries l) 0 (read_short l)),
      behind,
      same_refl tail,
      and-true,
    )

module _ (c : Config) (l : List ℕ) where
  -- the header, the rows, the length and the table, each by itself
  pub judged : image_ok c l
      ≡ (same (header (number_at l 24 8) (read_entries l)) (take 32 l) && same (rows_from 0 (read_entries l)) (part l 32 (96 * count (read_entries l)))
      && eqb (length l) (total (read_entries l)) && table_ok c (table_of (number_at l 24 8) (read_entries l)))
  unfolding image_ok read_image
  judged = rw (same-image l)

  pub passes : image_ok c l ≡ true → Passes l
  unfolding image_ok read_image
  passes h =
      let is : image_bytes (read_image l) ≡ l = same-eq (image_bytes (read_image l)) l (search ands) in
      let few : count (read_entries l) ≤ 16 = omega (arith, count_most (read_entries l), read-sixteen l) in
      let long : length l ≡ total (read_entries l) = eqb-true (length l) (total (read_entries l)) (search ands) in
      let number : number_at l 4 4 ≡ count (read_entries l) = sym (ap (λ (x : List ℕ). number_at x 4 4) is) ∙ header-count (read_image l) (omega arith) in
      record { is = is; long = long; number = number; few = few; header-there = omega arith; rows-there = omega arith }

  -- ---- images that do not pass: too short for a header, too many rows, too short for the rows

  pub fails-header : leb 32 (length l) ≡ false → image_ok c l ≡ false
  fails-header h = refute (image_ok c l) (λ y. let p = passes y in omega (arith, leb-false 32 (length l) h))

  pub fails-count : leb (number_at l 4 4) 16 ≡ false → image_ok c l ≡ false
  fails-count h = refute (image_ok c l) (λ y. let p = passes y in omega (arith, leb-false (number_at l 4 4) 16 h))

  pub fails-rows : leb (32 + 96 * number_at l 4 4) (length l) ≡ false → image_ok c l ≡ false
  fails-rows h = refute (image_ok c l) (λ y. let p = passes y in omega (arith, leb-false (32 + 96 * number_at l 4 4) (length l) h))
