-- Where no two tags of a row are equal, only the entry at the key's own tag can hold it. Assumes nothing.
use mathlib.Core.Path.{◌≡◌, refl, sym, ap, ◌∙◌}
use mathlib.Core.List.{List, [], ◌∷◌}
use mathlib.Core.Bool.{true, false, cond}
use Prim.Native.Nat.{ℕ, zero, suc, ◌+◌, ◌≤◌, ◌<◌}
use native.Mathlib.Omega.{arith}
use lib.ListN.{length, get_or}
use lib.Dec.{eqb}
use borrow.Author.Tests.{eqb-true, eqb-false, eq-eqb}
use Rattle.tags.specs.Tags.{times}
use Rattle.tags.proofs.Counts.{Apart}
use Rattle.pieces.proofs.Tests.{by_cases}
use Rattle.entries.specs.declared.Entry.{Entry}
use Rattle.keys.specs.Lists.{find}
use Rattle.keys.specs.Keys.{Name, tag_of}
use Rattle.entries.specs.Quick.{holds_live}
use Rattle.block_table.specs.Quick.{tags_from}
use Rattle.keys.proofs.Lists.{find-hit, find-before, find-at-most, find-is, find_none}
use Rattle.entries.proofs.Quick.{untagged}
use Rattle.block_table.proofs.Quick.{tags-at, tags-length}
use Rattle.entries.proofs.Turns.{nil}

-- ---- no number stands twice

absent : (x : ℕ) (xs : List ℕ) → times x xs ≡ 0 → (j : ℕ) → j < length xs → get_or xs j 0 ≡ x → ⊥
absent x [] h j b e = omega arith
absent x (y ∷ ys) h zero b e =
    let g : ◌≡◌ {A = ℕ} (cond (eqb y x) 1 0) 1 = rw (eq-eqb y x e) in
    omega arith
absent x (y ∷ ys) h (suc j) b e = absent x ys (omega arith) j (omega arith) e

one_place : (row : List ℕ) → Apart row → (i j : ℕ) → i < length row → j < length row → get_or row i 0 ≡ get_or row j 0 → i ≡ j
one_place [] a i j hi hj e = absurd (omega arith)
one_place (x ∷ xs) a zero zero hi hj e = refl
one_place (x ∷ xs) a zero (suc j) hi hj e = absurd (absent x xs a.0 j (omega arith) (sym e))
one_place (x ∷ xs) a (suc i) zero hi hj e = absurd (absent x xs a.0 i (omega arith) e)
one_place (x ∷ xs) a (suc i) (suc j) hi hj e = ap suc (one_place xs a.1 i j (omega arith) (omega arith) e)

-- ---- the key's entry, by its tag

module _ (lifetime time : ℕ) (k : Name) (l : List Entry) (i : ℕ) (first : i ≡ find (λ x. eqb x (tag_of k)) (tags_from 0 l)) where
  another : (j : ℕ) → j < length l → eqb (get_or (tags_from 0 l) j 0) (tag_of k) ≡ false → holds_live lifetime time k (get_or l j nil) ≡ false
  another j b n =
      untagged k (get_or l j nil) (0 + j) lifetime time
      (λ t. eqb-false (get_or (tags_from 0 l) j 0) (tag_of k) n (tags-at l j 0 nil b ∙ t))

  -- the first entry with the key's tag holds it
  pub tagged-holds : i < length l → holds_live lifetime time k (get_or l i nil) ≡ true → i ≡ find (holds_live lifetime time k) l
  tagged-holds b h =
      sym (find-is (holds_live lifetime time k) nil l i b h
      (λ j q. another j (omega arith) (find-before (λ x. eqb x (tag_of k)) 0 (tags_from 0 l) j (omega arith))))

  -- it does not, or there is none: so no entry does
  pub tagged-none : Apart (tags_from 0 l) → (i < length l → holds_live lifetime time k (get_or l i nil) ≡ false) → find (holds_live lifetime time k) l ≡ length l
  tagged-none apart h =
      find_none (holds_live lifetime time k) nil l (λ j b.
      by_cases (eqb (get_or (tags_from 0 l) j 0) (tag_of k))
      (λ y. own j b y (find-at-most (λ x. eqb x (tag_of k)) 0 (tags_from 0 l) j (rw (tags-length 0 l) b) y))
      (another j b))
    where
      own : (j : ℕ) → j < length l → eqb (get_or (tags_from 0 l) j 0) (tag_of k) ≡ true → find (λ x. eqb x (tag_of k)) (tags_from 0 l) ≤ j
          → holds_live lifetime time k (get_or l j nil) ≡ false
      own j b y m =
          let below : i < length l = omega arith in
          let hit : eqb (get_or (tags_from 0 l) i 0) (tag_of k) ≡ true =
          rw first (find-hit (λ x. eqb x (tag_of k)) 0 (tags_from 0 l) (omega (arith, tags-length 0 l))) in
          let e : i ≡ j =
          one_place (tags_from 0 l) apart i j (rw (tags-length 0 l) below) (rw (tags-length 0 l) b) (eqb-true _ _ hit ∙ sym (eqb-true _ _ y)) in
          rw (← e) (h below)
