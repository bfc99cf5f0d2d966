-- Laws of the place of a key in sixteen entries, and of the entry that a call starts from. Assumes nothing.
use Prim.Native.Nat.{ℕ, ◌≤◌, ◌<◌}
use mathlib.Core.Bool.{true, false}
use mathlib.Core.Path.{◌≡◌, sym, ◌∙◌}
use mathlib.Core.Logic.{◌≢◌}
use mathlib.Core.List.{List}
use native.Mathlib.Omega.{arith}
use lib.ListN.{length, get_or-eq_default}
use lib.Dec.{ltb}
use borrow.Author.Tests.{ltb-true, ltb-false, lt-ltb, le-ltb, not-true}
use Rattle.block_state.specs.State.{nothing}
use Rattle.pieces.proofs.Tests.{false-is-not, refute, clash-of, by_cases}
use Rattle.entries.specs.declared.Entry.{Entry}
use Rattle.keys.specs.Lists.{find}
use Rattle.keys.specs.Keys.{Name, same, key_of, stored}
use Rattle.entries.specs.Entries.{in_use, free, holds, unused}
use Rattle.block_table.specs.Table.{at}
use Rattle.key_place.specs.Place.{place}
use Rattle.places.specs.Places.{opened}
use Rattle.keys.proofs.Lists.{find-le, find-hit, find-before, find-at-most, find-is, find_none}
use Rattle.keys.proofs.Keys.{same_refl, key-stored}
use Rattle.entries.proofs.Entries.{holds-used, holds-key, holds-one, holds-new}
use Rattle.block_table.proofs.Row.{Unique}

-- the first entry that is not in use is not in use, nor is any past the row
unused-first : (l : List Entry) → (at l (find unused l)).used ≡ false
unused-first l =
    by_cases (ltb (find unused l) (length l))
    (λ y. not-true (at l (find unused l)).used (find-hit unused free l (ltb-true (find unused l) (length l) y)))
    (λ n. rw (get_or-eq_default l free {n = find unused l} (ltb-false (find unused l) (length l) n)))

module _ (k : Name) (l : List Entry) where
  -- the entry that a call starts from: the one at the place, or a new one
  pub opened-own : (at l (place k l)).used ≡ true → opened k l ≡ at l (place k l)
  unfolding opened
  opened-own h = rw h

  pub opened-new : (at l (place k l)).used ≡ false → opened k l ≡ in_use (stored k) 0 nothing
  unfolding opened
  opened-new h = rw h

module _ (k : Name) (l : List Entry) (long : length l ≡ 16) where
  -- the place is an entry, or 16
  pub place-most : place k l ≤ 16
  unfolding place
  place-most =
      by_cases (ltb (find (holds k) l) 16)
      (λ y. rw y (omega (arith, ltb-true (find (holds k) l) 16 y)))
      (λ n. rw n (omega (arith, find-le unused free l)))

  -- an entry in use at the place is the key's own
  pub place-holds : (at l (place k l)).used ≡ true → holds k (at l (place k l)) ≡ true
  unfolding place
  place-holds =
      by_cases (ltb (find (holds k) l) 16)
      (λ y. rw y (λ u. find-hit (holds k) free l (omega (arith, ltb-true (find (holds k) l) 16 y))))
      (λ n. rw n (λ u. absurd (clash-of (at l (find unused l)).used u (unused-first l))))

  -- where the place is not in use, no entry holds the key
  pub place-new : (at l (place k l)).used ≡ false → (j : ℕ) → j < 16 → holds k (at l j) ≡ false
  unfolding place
  place-new =
      by_cases (ltb (find (holds k) l) 16)
      (λ y. rw y (λ u. absurd (clash-of (at l (find (holds k) l)).used
      (holds-used k (at l (find (holds k) l)) (find-hit (holds k) free l (omega (arith, ltb-true (find (holds k) l) 16 y)))) u)))
      (λ n. rw n (λ u j b. find-before (holds k) free l j (omega (arith, ltb-false (find (holds k) l) 16 n))))

  -- an entry that holds the key is its place
  pub place-of : Unique l → (i : ℕ) → i < 16 → holds k (at l i) ≡ true → place k l ≡ i
  unfolding place Unique
  place-of u i b h =
      let m : find (holds k) l ≤ i = find-at-most (holds k) free l i (omega arith) h in
      rw (lt-ltb (find (holds k) l) 16 (omega arith))
      (u k (find (holds k) l) i (omega arith) (omega arith) (find-hit (holds k) free l (omega arith)) h)

  module _ (none : (j : ℕ) → j < 16 → holds k (at l j) ≡ false) where
    -- a key with no entry takes the first that is free
    pub place-unheld : place k l ≡ find unused l
    unfolding place
    place-unheld =
        let e : find (holds k) l ≡ length l = find_none (holds k) free l (λ j b. none j (omega arith)) in
        rw (le-ltb (find (holds k) l) 16 (omega arith))

    -- the first that is free is the lowest
    pub place-lowest : (i : ℕ) → i < 16 → (at l i).used ≡ false → ((j : ℕ) → j < i → (at l j).used ≡ true) → place k l ≡ i
    place-lowest i b h below =
        place-unheld ∙ find-is unused free l i (omega arith) (false-is-not (at l i).used h) (λ j q. rw (below j q))

    -- a row in use leaves no place
    pub place-full : ((j : ℕ) → j < 16 → (at l j).used ≡ true) → place k l ≡ 16
    place-full every = place-unheld ∙ find_none unused free l (λ j b. rw (every j (omega arith))) ∙ long

  -- no other entry holds the key
  pub others : Unique l → place k l < 16 → (j : ℕ) → j < 16 → j ≢ place k l → holds k (at l j) ≡ false
  unfolding Unique
  others u p j b ne =
      by_cases (at l (place k l)).used
      (λ h. refute (holds k (at l j)) λ t. ne (u k j (place k l) (omega arith) (omega arith) t (place-holds h)))
      (λ h. place-new h j b)

  -- another key's entry is not the place
  pub elsewhere : (q : Name) → same q k ≡ false → (i : ℕ) → holds q (at l i) ≡ true → i ≢ place k l
  elsewhere q ne i h e =
      by_cases (at l (place k l)).used
      (λ y. clash-of (same q k) (rw (holds-one q k (at l i) h (rw e (place-holds y))) (same_refl k)) ne)
      (λ n. clash-of (at l i).used (holds-used q (at l i) h) (rw e n))

  -- the entry that a call starts from is in use for the key
  pub opened-holds : holds k (opened k l) ≡ true
  opened-holds =
      by_cases (at l (place k l)).used
      (λ h. rw (opened-own k l h) (place-holds h))
      (λ h. rw (opened-new k l h) (holds-new k k (stored k) 0 nothing (key-stored k) ∙ same_refl k))

  pub opened-key : key_of (opened k l).key ≡ k
  opened-key = sym (holds-key k (opened k l) opened-holds)
