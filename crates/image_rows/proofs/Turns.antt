-- What one turn over the entries, or over the rows of an image, takes off the front of what is left. Assumes nothing.
use Prim.Native.Nat.{ℕ, zero, suc, ◌+◌, ◌-◌, ◌*◌, ◌≤◌, ◌<◌}
use mathlib.Core.Bool.{Bool, true, false, cond, ◌&&◌, and_assoc, and-true}
use mathlib.Core.Path.{◌≡◌, refl, sym, ap, ◌∙◌}
use mathlib.Core.List.{List, [], ◌∷◌, ◌++◌, append-nil, append_assoc}
use native.Mathlib.Nat.{add-zero, zero-add}
use native.Mathlib.Numerals.{add-one}
use native.Mathlib.Omega.{arith}
use lib.ListN.{length, get_or, set, take, drop, length-append, drop_of_length-le}
use lib.Seq.{drop-drop, get_or-take}
use Rattle.std.specs.Int.{from_bool}
use Rattle.pieces.specs.Memory.{part, Put}
use Rattle.pieces.proofs.Puts.{put_then, put-none}
use Rattle.big_endian.proofs.Numbers.{length-bytes}
use Rattle.pieces.proofs.Memory.{take_part, drop-part, patch-whole}
use Rattle.keys.specs.Keys.{same, key_of, stored}
use Rattle.keys.proofs.Turns.{drop-step}
use Rattle.entries.specs.declared.Entry.{Entry}
use Rattle.entries.proofs.Turns.{nil}
use Rattle.image_format.specs.Rows.{flag, row_numbers, row_bytes, read_entry, rows_from, count, read_rows}
use Rattle.image_format.proofs.Judged.{same_parts}

-- ---- a row, in the three parts that are put

flag-is : (b : Bool) → from_bool b ≡ flag b
flag-is true = refl
flag-is false = refl

pub row_put : {m : List ℕ} {at : ℕ} {m₁ : List ℕ} {k : ℕ} {m₂ : List ℕ} {j : ℕ} {m₃ : List ℕ} {r : ℕ} (i : ℕ) (e : Entry) (held given more : ℕ)
    → held ≡ from_bool e.state.cached.held → given ≡ from_bool e.state.recorded.given → more ≡ from_bool e.state.recorded.more
    → Put m at (i ∷ e.key.len ∷ e.state.assembled.exponent ∷ held ∷ e.state.cached.head ∷ given ∷ more ∷ e.state.recorded.exponent ∷ []) m₁ k
    → Put m₁ k (row_numbers e) m₂ j → Put m₂ j (stored (key_of e.key)).bytes m₃ r → length (stored (key_of e.key)).bytes ≡ 64
    → Put m at (row_bytes i e) m₃ r × (length (row_bytes i e) ≡ 96)
unfolding row_bytes
row_put i e held given more a b c first numbers key long =
    let eight = rw (a ∙ flag-is e.state.cached.held, b ∙ flag-is e.state.recorded.given, c ∙ flag-is e.state.recorded.more) at first in
    (put_then eight (put_then numbers key), simp (length-append, length-bytes) (omega (arith, long)))

-- of an entry that is in use, and of one that is not
module _ (used : Bool) (m : List ℕ) (at : ℕ) (row : List ℕ) where
  pub row_written : {m' : List ℕ} {r : ℕ} → used ≡ true → Put m at row m' r × (length row ≡ 96) → Put m at (cond used row []) m' r × (r ≡ at + cond used 96 0)
  row_written e p = rw e (p.0, omega (arith, p.0.to, p.1))

  pub none_written : used ≡ false → at + cond used 96 0 ≤ length m → Put m at (cond used row []) m at × (at ≡ at + cond used 96 0)
  none_written e h = rw e (put-none m at (omega (arith, rw e at h)), omega arith)

-- a buffer of a row's length is the row
pub ruleset whole = (patch-whole)

-- ---- the rows

-- what the first i entries have written, and what entry i adds if it is in use
either : (b : Bool) (x y z w : List ℕ) → y ≡ z ++ w → cond b (x ++ y) y ≡ cond b (x ++ z) z ++ w
either true x y z w e = ap (λ (l : List ℕ). x ++ l) e ∙ sym (append_assoc x z w)
either false x y z w e = e

alone : (b : Bool) (x : List ℕ) → cond b (x ++ []) [] ≡ cond b x []
alone true x = append-nil x
alone false x = refl

rows_more : (k : ℕ) (l : List Entry) (i : ℕ) → i < length l
    → rows_from k (take (suc i) l) ≡ rows_from k (take i l) ++ cond (get_or l i nil).used (row_bytes (k + i) (get_or l i nil)) []
rows_more k [] i h = absurd (omega arith)
rows_more k (e ∷ l) zero h = rw (add-zero) (alone e.used (row_bytes k e))
rows_more k (e ∷ l) (suc i) h =
    let next : suc k + i ≡ k + suc i = omega arith in
    either e.used (row_bytes k e) (rows_from (suc k) (take (suc i) l)) (rows_from (suc k) (take i l)) _ (rows_more (suc k) l i (omega arith) ∙ rw next)

module _ (l : List Entry) (i : ℕ) (h : i < length l) where
  pub rows_next : rows_from 0 (take i l) ++ cond (get_or l i nil).used (row_bytes i (get_or l i nil)) [] ≡ rows_from 0 (take (i + 1) l)
  rows_next = sym (ap (λ (n : ℕ). rows_from 0 (take n l)) (add-one i) ∙ rows_more 0 l i h ∙ rw (zero-add))

  -- the comparison: the row of entry i, if it is in use, against the next 96 bytes, and then the others
  module _ (image : List ℕ) (at : ℕ) (met r : Bool) (there : at + 96 * count (drop i l) ≤ length image)
      (was : (met && same (rows_from i (drop i l)) (part image at (96 * count (drop i l)))) ≡ r) where
    pub same-unused : (get_or l i nil).used ≡ false → (met && same (rows_from (i + 1) (drop (i + 1) l)) (part image at (96 * count (drop (i + 1) l)))) ≡ r
    same-unused e = rw (add-one i) (rw (drop-step l i nil h, add-one i, e) at was)

    pub same-used : (get_or l i nil).used ≡ true → length (row_bytes i (get_or l i nil)) ≡ 96
        → (met && same (row_bytes i (get_or l i nil)) (part image at 96) && same (rows_from (i + 1) (drop (i + 1) l)) (part image (at + 96) (96 * count (drop (i + 1) l)))) ≡ r
    same-used e long =
        let row : List ℕ = row_bytes i (get_or l i nil) in
        let rest : List ℕ = rows_from (i + 1) (drop (i + 1) l) in
        let n : ℕ = 96 * count (drop (i + 1) l) in
        let rows : rows_from i (drop i l) ≡ row ++ rest = rw (drop-step l i nil h, e, add-one i) in
        let more : 96 * count (drop i l) ≡ 96 + n = rw (drop-step l i nil h, e) (omega arith) in
        let back : 96 + n - 96 ≡ n = omega arith in
        let next : drop 96 (part image at (96 + n)) ≡ part image (at + 96) n =
        drop-part image at (96 + n) 96 (omega arith) (omega (arith, more)) ∙ ap (part image (at + 96)) back in
        let both : same (rows_from i (drop i l)) (part image at (96 * count (drop i l))) ≡ (same row (part image at 96) && same rest (part image (at + 96) n)) =
        rw (rows, more, same_parts row rest (part image at (96 + n)) 96 long, take_part image at (96 + n) 96 (omega arith), next) in
        and_assoc met (same row (part image at 96)) (same rest (part image (at + 96) n)) ∙ ap (λ (x : Bool). met && x) (sym both) ∙ was

  pub count_step : 96 * count (drop i l) ≡ cond (get_or l i nil).used 96 0 + 96 * count (drop (i + 1) l)
  count_step = rw (drop-step l i nil h) (either (get_or l i nil).used (count (drop (i + 1) l)))
    where
      either : (b : Bool) (n : ℕ) → 96 * cond b (suc n) n ≡ cond b 96 0 + 96 * n
      either true n = omega arith
      either false n = omega arith

-- the last turn: nothing is left to compare
pub same_end : (l : List Entry) (i : ℕ) (b : List ℕ) (met r : Bool) → length l ≤ i → (met && same (rows_from i (drop i l)) (take (96 * count (drop i l)) b)) ≡ r → met ≡ r
unfolding same
same_end l i b met r h was = sym (and-true met) ∙ rw (drop_of_length-le l {i = i} h) at was

-- one more row is read
abbrev pub row : List ℕ → ℕ → List ℕ
row image j = let at = 32 + 96 * j in take (at + 96 - at) (drop at image)

pub read_turn : (entries : List Entry) (n j : ℕ) (image : List ℕ) (number : ℕ) (e : Entry) → j < n → number ≡ get_or (row image j) 0 0 → e ≡ read_entry (row image j)
    → read_rows (set entries number e) (n - (j + 1)) (drop (32 + 96 * (j + 1)) image) ≡ read_rows entries (n - j) (drop (32 + 96 * j) image)
read_turn entries n j image number e h a b =
    let at : ℕ = 32 + 96 * j in
    let k : ℕ = n - (j + 1) in
    let left : n - j ≡ suc k = omega arith in
    let on : 32 + 96 * (j + 1) ≡ at + 96 = omega arith in
    let long : at + 96 - at ≡ 96 = omega arith in
    let here : List ℕ = take 96 (drop at image) in
    let is : row image j ≡ here = ap (λ (n : ℕ). take n (drop at image)) long in
    let first : number ≡ get_or (drop at image) 0 0 = a ∙ ap (λ (l : List ℕ). get_or l 0 0) is ∙ get_or-take 96 (drop at image) 0 0 (omega arith) in
    rw (left, on)
    (ap (λ (i : ℕ). read_rows (set entries i e) k (drop (at + 96) image)) first
    ∙ ap (λ (x : Entry). read_rows (set entries (get_or (drop at image) 0 0) x) k (drop (at + 96) image)) (b ∙ ap read_entry is)
    ∙ ap (read_rows (set entries (get_or (drop at image) 0 0) (read_entry here)) k) (sym (drop-drop 96 at image)))
