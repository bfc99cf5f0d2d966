-- Why the quick test of a table is the exact one: entries in use with one key have one tag, so where no two tags are equal no two keys are. Assumes
-- nothing.
use mathlib.Core.Path.{◌≡◌, refl, sym, ap, ◌∙◌}
use mathlib.Core.List.{List, [], ◌∷◌}
use mathlib.Core.Bool.{Bool, true, false, cond}
use Prim.Native.Nat.{ℕ, suc, zero, ◌+◌, ◌≤◌, ◌<◌}
use native.Mathlib.Numerals.{add-one}
use native.Mathlib.Omega.{arith}
use native.Mathlib.Nat.{not-suc-le-zero, le_of_suc-le-suc, add-zero}
use lib.ListN.{length, get_or, take, drop, set, drop_of_length-le}
use lib.Seq.{take-suc-set, take-suc}
use lib.Dec.{eqb}
use borrow.Author.Tests.{eq-eqb}
use Rattle.tags.specs.Tags.{times}
use Rattle.tags.proofs.Counts.{Apart}
use Rattle.entries.specs.declared.Entry.{Entry}
use Rattle.entries.specs.Entries.{clash}
use Rattle.block_table.specs.Table.{distinct}
use Rattle.entries.specs.Quick.{tag_of}
use Rattle.block_table.specs.Quick.{tags_from, alone}
use Rattle.keys.proofs.Turns.{drop-step}
use Rattle.entries.proofs.Quick.{tag_same}

module _ (l : List Entry) (i : ℕ) where
  pub row-go : (d : Entry) → i < length l → alone (get_or l i d) (drop (i + 1) l) ≡ true → distinct (drop (i + 1) l) ≡ distinct (drop i l)
  unfolding distinct
  row-go d h p = rw (drop-step l i d, p)

  pub row-no : (d : Entry) → i < length l → alone (get_or l i d) (drop (i + 1) l) ≡ false → distinct (drop i l) ≡ false
  unfolding distinct
  row-no d h p = rw (drop-step l i d, p)

  pub row-end : length l ≤ i → distinct (drop i l) ≡ true
  unfolding distinct
  row-end h = rw (drop_of_length-le l h)

-- ---- tags

pub tags-length : (j : ℕ) (l : List Entry) → length (tags_from j l) ≡ length l
tags-length j [] = refl
tags-length j (e ∷ rest) = ap suc (tags-length (j + 1) rest)

pub tags-at : (l : List Entry) (i j : ℕ) (d : Entry) → i < length l → get_or (tags_from j l) i 0 ≡ tag_of (get_or l i d) (j + i)
tags-at [] i j d h = absurd (not-suc-le-zero h)
tags-at (e ∷ rest) zero j d h = rw (add-zero j)
tags-at (e ∷ rest) (suc i) j d h = tags-at rest i (j + 1) d (le_of_suc-le-suc h) ∙ ap (tag_of (get_or rest i d)) (omega arith)

pub tags-go : (l : List Entry) (row : List ℕ) (i v : ℕ) (d : Entry) → i < length l → i < length row → v ≡ tag_of (get_or l i d) i
    → take i row ≡ take i (tags_from 0 l) → take (i + 1) (set row i v) ≡ take (i + 1) (tags_from 0 l)
tags-go l row i v d h g e was =
    let k : i < length (tags_from 0 l) = rw (tags-length 0 l) h in
    let f : get_or (tags_from 0 l) i 0 ≡ v = tags-at l i 0 d h ∙ ap (tag_of (get_or l i d)) (omega arith) ∙ sym e in
    rw (add-one, take-suc-set row i v g, take-suc (tags_from 0 l) i 0 k, was, f)

-- ---- entries whose tags differ do not clash

abbrev hit : ℕ → ℕ → ℕ
hit x d = cond (eqb x d) 1 0

clear : (e f : Entry) (i j : ℕ) (b : Bool) → clash e f ≡ b → hit (tag_of f j) (tag_of e i) ≡ 0 → b ≡ false
clear e f i j false k h = refl
clear e f i j true k h =
    let g : hit (tag_of f j) (tag_of e i) ≡ 1 = rw (eq-eqb (tag_of f j) (tag_of e i) (tag_same e f i j k)) in
    absurd (omega arith)

alone-by : (e : Entry) (l : List Entry) (i j : ℕ) → times (tag_of e i) (tags_from j l) ≡ 0 → alone e l ≡ true
alone-by e [] i j h = refl
alone-by e (f ∷ rest) i j h = rw (clear e f i j (clash e f) refl (omega arith), alone-by e rest i (j + 1) (omega arith))

pub distinct-by : (l : List Entry) (j : ℕ) → Apart (tags_from j l) → distinct l ≡ true
unfolding distinct
distinct-by [] j h = refl
distinct-by (e ∷ rest) j h = rw (alone-by e rest j (j + 1) h.0, distinct-by rest (j + 1) h.1)
