-- Laws of a row of entries: no two for one key, expiry, and what is stored in it. Assumes nothing.
use Prim.Native.Nat.{ℕ, zero, suc, ◌<◌}
use mathlib.Core.Bool.{true, false, not}
use mathlib.Core.Path.{◌≡◌, refl, ap}
use mathlib.Core.Logic.{◌≢◌}
use mathlib.Core.List.{List, [], ◌∷◌}
use native.Mathlib.Omega.{arith}
use native.Mathlib.Decide.{ℕ_discrete}
use lib.ListN.{length, set, length-set, length-map, get_or-map}
use lib.Seq.{get_or-set_same, get_or-set_other}
use Rattle.pieces.proofs.Tests.{and_left, and_right, and_both, false-is-not, refute, clash-of}
use Rattle.entries.specs.declared.Entry.{Entry}
use Rattle.keys.specs.Lists.{all}
use Rattle.keys.specs.Keys.{Name, key_of}
use Rattle.entries.specs.Entries.{free, holds, clash, live, swept, sweep}
use Rattle.block_table.specs.Table.{distinct, at}
use Rattle.keys.proofs.Lists.{all-at, at_all}
use Rattle.entries.proofs.Entries.{holds-own, no-clash, swept-holds}

-- no two entries hold one key
unfoldable pub Unique : List Entry → Type 0
Unique l = (k : Name) (i j : ℕ) → i < length l → j < length l → holds k (at l i) ≡ true → holds k (at l j) ≡ true → i ≡ j

pub distinct-unique : (l : List Entry) → distinct l ≡ true → Unique l
unfolding distinct Unique
distinct-unique [] d k i j hi hj a b = absurd (omega arith)
distinct-unique (e ∷ l) d k zero zero hi hj a b = refl
distinct-unique (e ∷ l) d k zero (suc j) hi hj a b =
    absurd (no-clash k e (at l j) a b (all-at (λ f. not (clash e f)) free l (and_left _ (distinct l) d) j (omega arith)))
distinct-unique (e ∷ l) d k (suc i) zero hi hj a b =
    absurd (no-clash k e (at l i) b a (all-at (λ f. not (clash e f)) free l (and_left _ (distinct l) d) i (omega arith)))
distinct-unique (e ∷ l) d k (suc i) (suc j) hi hj a b =
    ap suc (distinct-unique l (and_right (all (λ f. not (clash e f)) l) (distinct l) d) k i j (omega arith) (omega arith) a b)

pub unique-distinct : (l : List Entry) → Unique l → distinct l ≡ true
unfolding distinct Unique clash
unique-distinct [] u = refl
unique-distinct (e ∷ l) u =
    and_both (all (λ f. not (clash e f)) l) (distinct l)
    (at_all (λ f. not (clash e f)) free l λ j h.
    false-is-not (clash e (at l j)) (refute (clash e (at l j)) λ t.
    let z : 0 ≡ suc j = u (key_of e.key) 0 (suc j) (omega arith) (omega arith) (holds-own e (and_left e.used _ t)) (and_right e.used _ t) in
    omega arith))
    (unique-distinct l λ k i j hi hj a b.
    let z : suc i ≡ suc j = u k (suc i) (suc j) (omega arith) (omega arith) a b in
    omega arith)

-- ---- expiry

module _ (lifetime time : ℕ) where
  pub length-sweep : (l : List Entry) → length (sweep lifetime time l) ≡ length l
  unfolding sweep
  length-sweep l = length-map l (swept lifetime time)

  pub at-sweep : (l : List Entry) (i : ℕ) → at (sweep lifetime time l) i ≡ swept lifetime time (at l i)
  unfolding sweep swept live
  at-sweep l i = get_or-map (swept lifetime time) l i free

  pub unique-sweep : (l : List Entry) → Unique l → Unique (sweep lifetime time l)
  unfolding Unique
  unique-sweep l u k i j hi hj a b =
      u k i j (rw (← (length-sweep l)) hi) (rw (← (length-sweep l)) hj)
      (swept-holds lifetime time k (at l i) (rw (at-sweep l i) at a)).1
      (swept-holds lifetime time k (at l j) (rw (at-sweep l j) at b)).1

-- ---- what is stored at a place

module _ (l : List Entry) (i : ℕ) (n : Entry) (b : i < length l) where
  pub at_set_same : at (set l i n) i ≡ n
  at_set_same = get_or-set_same l i n free b

  pub at_set_other : (j : ℕ) → j ≢ i → at (set l i n) j ≡ at l j
  at_set_other j ne = get_or-set_other l i j n free ne

  -- what holds of the new entry at its place, and of the others at theirs, holds everywhere
  pub at_set : (P : ℕ → Entry → Type 0) → P i n → ((j : ℕ) → j < length l → j ≢ i → P j (at l j)) → (j : ℕ) → j < length l → P j (at (set l i n) j)
  at_set P new old j h =
      elim (ℕ_discrete j i) [ yes e ↦ rw e (rw at_set_same new) | no ne ↦ rw (at_set_other j ne) (old j h ne) ]

  -- a new entry that holds no key but k, where no other does, leaves no two that hold one key
  pub unique-set : (k : Name) → ((q : Name) → holds q n ≡ true → q ≡ k) → Unique l
      → ((j : ℕ) → j < length l → j ≢ i → holds k (at l j) ≡ false) → Unique (set l i n)
  unfolding Unique
  unique-set k only u others q a c ha hc =
      at_set (λ a e. holds q e ≡ true → holds q (at (set l i n) c) ≡ true → a ≡ c)
      (λ x. at_set (λ c e. holds q e ≡ true → i ≡ c) (λ y. refl)
      (λ c hc ne y. absurd (clash-of _ (rw (only q x) at y) (others c hc ne))) c (rw length-set at hc))
      (λ a ha ne x. at_set (λ c e. holds q e ≡ true → a ≡ c)
      (λ y. absurd (clash-of _ (rw (only q y) at x) (others a ha ne)))
      (λ c hc ne y. u q a c ha hc x y) c (rw length-set at hc))
      a (rw length-set at ha)
