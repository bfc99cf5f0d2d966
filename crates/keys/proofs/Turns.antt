-- The laws that loops over keys and rows use: what one turn takes off the front of what is left. Assumes nothing.
use mathlib.Core.Path.{◌≡◌, refl, sym, ap₂, ◌∙◌}
use mathlib.Core.List.{List, [], ◌∷◌}
use mathlib.Core.Bool.{Bool, true, false, ◌&&◌, and-true, and_assoc}
use Prim.Native.Nat.{ℕ, suc, zero, ◌+◌, ◌-◌, ◌≤◌, ◌<◌}
use native.Mathlib.Numerals.{add-one}
use native.Mathlib.Omega.{arith}
use lib.ListN.{length, get_or, drop, replicate, drop_of_length-le}
use lib.Seq.{drop-cons}
use lib.Dec.{eqb}
use borrow.Author.Tests.{eqb-true}
use Rattle.keys.specs.declared.Key.{Key}
use Rattle.keys.specs.Lists.{find, all}
use Rattle.pieces.proofs.Tests.{and_left, and_right}

module _ {A : Type 0} where
  pub drop-step : (l : List A) (i : ℕ) (d : A) → i < length l → drop i l ≡ get_or l i d ∷ drop (i + 1) l
  drop-step l i d h = rw (add-one, drop-cons l i d)

  module _ (p : A → Bool) (l : List A) (i : ℕ) where
    pub all_go : (d : A) → i < length l → p (get_or l i d) ≡ true → all p (drop (i + 1) l) ≡ all p (drop i l)
    all_go d h e = rw (drop-step l i d, e)

    pub all_end : length l ≤ i → all p (drop i l) ≡ true
    all_end h = rw (drop_of_length-le l h)

    -- What was found of the elements before i, and of all from there on.
    pub all-turn : (d : A) (met r : Bool) → i < length l → (met && all p (drop i l)) ≡ r → (met && p (get_or l i d) && all p (drop (i + 1) l)) ≡ r
    all-turn d met r h was = and_assoc met (p (get_or l i d)) (all p (drop (i + 1) l)) ∙ rw (drop-step l i d h) at was

    pub all_done : (met r : Bool) → length l ≤ i → (met && all p (drop i l)) ≡ r → met ≡ r
    all_done met r h was = sym (and-true met) ∙ rw (drop_of_length-le l h) at was

    pub find-go : (d : A) (n : ℕ) → i < length l → p (get_or l i d) ≡ false → i + find p (drop i l) ≡ n → (i + 1) + find p (drop (i + 1) l) ≡ n
    find-go d n h e was =
        let f : find p (drop i l) ≡ suc (find p (drop (i + 1) l)) = rw (drop-step l i d, e) in
        omega arith

    pub find-here : (d : A) (n : ℕ) → i < length l → p (get_or l i d) ≡ true → i + find p (drop i l) ≡ n → i ≡ n
    find-here d n h e was =
        let f : find p (drop i l) ≡ 0 = rw (drop-step l i d, e) in
        omega arith

-- ---- keys

-- What Rattle has for the key of an entry past the end of a row.
abbrev pub nil_key : Key
nil_key = record { bytes = []; len = 0 }

pub drop-zeros : (m n : ℕ) → n ≤ m → drop {A = ℕ} n (replicate m 0) ≡ replicate (m - n) 0
drop-zeros m zero h = let e : m - 0 ≡ m = omega arith in rw e
drop-zeros zero (suc n) h = absurd (omega arith)
drop-zeros (suc m) (suc n) h = let e : suc m - suc n ≡ m - n = omega arith in rw e (drop-zeros m n (omega arith))

pub zeros : (l : List ℕ) → all (λ b. eqb b 0) l ≡ true → l ≡ replicate (length l) 0
zeros [] h = refl
zeros (x ∷ l) h = ap₂ ◌∷◌ (eqb-true x 0 (and_left (eqb x 0) (all (λ b. eqb b 0) l) h)) (zeros l (and_right (eqb x 0) (all (λ b. eqb b 0) l) h))
