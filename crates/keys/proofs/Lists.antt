-- Laws of `find` and `all`: where the first that passes stands, and that all pass exactly if each does. Assumes nothing.
use Prim.Native.Nat.{ℕ, zero, suc, ◌≤◌, ◌<◌}
use mathlib.Core.Bool.{Bool, true, false, cond}
use mathlib.Core.Path.{◌≡◌, refl}
use mathlib.Core.List.{List, [], ◌∷◌}
use native.Mathlib.Omega.{arith}
use lib.ListN.{length, get_or}
use Rattle.pieces.proofs.Tests.{and_left, and_right, and_both, clash-of}
use Rattle.keys.specs.Lists.{find, all}

module _ {A : Type 0} (p : A → Bool) (d : A) where
  pub find-le : (l : List A) → find p l ≤ length l
  find-le [] = omega arith
  find-le (a ∷ l) = go (p a) (find-le l)
    where
      go : (b : Bool) → find p l ≤ length l → cond b 0 (suc (find p l)) ≤ suc (length l)
      go true h = omega arith
      go false h = omega arith

  pub find-hit : (l : List A) → find p l < length l → p (get_or l (find p l) d) ≡ true
  find-hit [] h = absurd (omega arith)
  find-hit (a ∷ l) h = go (p a) refl h (find-hit l)
    where
      go : (b : Bool) → p a ≡ b → cond b 0 (suc (find p l)) < suc (length l) → (find p l < length l → p (get_or l (find p l) d) ≡ true)
          → p (get_or (a ∷ l) (cond b 0 (suc (find p l))) d) ≡ true
      go true e h ih = e
      go false e h ih = ih (omega arith)

  pub find-before : (l : List A) (j : ℕ) → j < find p l → p (get_or l j d) ≡ false
  find-before [] j h = absurd (omega arith)
  find-before (a ∷ l) zero h = go (p a) refl h
    where
      go : (b : Bool) → p a ≡ b → 0 < cond b 0 (suc (find p l)) → p a ≡ false
      go true e h = absurd (omega arith)
      go false e h = e
  find-before (a ∷ l) (suc j) h = find-before l j (go (p a) h)
    where
      go : (b : Bool) → suc j < cond b 0 (suc (find p l)) → j < find p l
      go true h = absurd (omega arith)
      go false h = omega arith

  pub find-at-most : (l : List A) (j : ℕ) → j < length l → p (get_or l j d) ≡ true → find p l ≤ j
  find-at-most l j b e = go (find p l) (find-before l)
    where
      go : (n : ℕ) → ((i : ℕ) → i < n → p (get_or l i d) ≡ false) → n ≤ j
      go n h = le-or (λ q. clash-of (p (get_or l j d)) e (h j q))
        where
          le-or : ((j < n) → ⊥) → n ≤ j
          le-or f = omega arith

  -- the first that passes stands where one passes and none before it does
  pub find-is : (l : List A) (i : ℕ) → i < length l → p (get_or l i d) ≡ true → ((j : ℕ) → j < i → p (get_or l j d) ≡ false) → find p l ≡ i
  find-is l i b e h =
      let le : find p l ≤ i = find-at-most l i b e in
      let ge : (find p l < i) → ⊥ = λ q. clash-of (p (get_or l (find p l) d)) (find-hit l (omega arith)) (h (find p l) q) in
      omega arith

  pub find_none : (l : List A) → ((j : ℕ) → j < length l → p (get_or l j d) ≡ false) → find p l ≡ length l
  find_none l h =
      let no : (find p l < length l) → ⊥ = λ q. clash-of (p (get_or l (find p l) d)) (find-hit l q) (h (find p l) q) in
      omega (arith, find-le l)

  pub all-at : (l : List A) → all p l ≡ true → (j : ℕ) → j < length l → p (get_or l j d) ≡ true
  all-at [] e j h = absurd (omega arith)
  all-at (a ∷ l) e zero h = and_left (p a) (all p l) e
  all-at (a ∷ l) e (suc j) h = all-at l (and_right (p a) (all p l) e) j (omega arith)

  pub at_all : (l : List A) → ((j : ℕ) → j < length l → p (get_or l j d) ≡ true) → all p l ≡ true
  at_all [] h = refl
  at_all (a ∷ l) h = and_both (p a) (all p l) (h 0 (omega arith)) (at_all l (λ j q. h (suc j) (omega arith)))
