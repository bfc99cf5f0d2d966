-- A row in the middle of a walk that maps its entries one by one, and what such a walk has seen. Assumes nothing.
use mathlib.Core.Path.{◌≡◌, refl, sym, ◌∙◌, ap}
use Prim.Native.Nat.{ℕ, zero, suc, ◌<◌, ◌+◌, ◌≤◌}
use native.Mathlib.Omega.{arith}
use native.Mathlib.Nat.{add-zero, add-suc, not-suc-le-zero, le_of_suc-le-suc}
use mathlib.Core.Bool.{Bool, true, false, cond}
use mathlib.Core.List.{[], ◌∷◌, List, map}
use lib.ListN.{length, set, get_or, drop, drop_of_length-le}
use borrow.Author.Tests.{lt-ltb, le-ltb}
use Rattle.std.specs.Prelude.{Option, Some, None, unwrap_or}
use Rattle.keys.proofs.Turns.{find-go, find-here}
use Rattle.entries.specs.declared.Entry.{Entry}
use Rattle.keys.specs.Lists.{find}
use Rattle.entries.specs.Entries.{holds, unused}
use Rattle.key_place.specs.Place.{place}
use Rattle.lent.specs.declared.Seen.{Seen}
use Rattle.lent.specs.Row.{first_of, seen_next}

pub one_more_lem : (i : ℕ) → suc i ≡ i + 1
one_more_lem i = sym (add-suc i zero ∙ ap suc (add-zero i))

-- ---- the row once its first i entries are mapped

module _ (f : Entry → Entry) where
  abbrev pub upto : ℕ → List Entry → List Entry
  upto zero es = es
  upto (suc i) [] = []
  upto (suc i) (e ∷ es) = f e ∷ upto i es

  pub upto-length : (i : ℕ) (es : List Entry) → length (upto i es) ≡ length es
  upto-length zero es = refl
  upto-length (suc i) [] = refl
  upto-length (suc i) (e ∷ es) = ap suc (upto-length i es)

  pub upto_next : (i : ℕ) (es : List Entry) (d : Entry) → i < length es → set (upto i es) i (f (get_or (upto i es) i d)) ≡ upto (suc i) es
  upto_next i [] d l = absurd (not-suc-le-zero l)
  upto_next zero (e ∷ es) d l = refl
  upto_next (suc i) (e ∷ es) d l = ap (λ (r : List Entry). f e ∷ r) (upto_next i es d (le_of_suc-le-suc l))

  pub upto_all : (es : List Entry) → upto (length es) es ≡ map f es
  upto_all [] = refl
  upto_all (e ∷ es) = ap (λ (r : List Entry). f e ∷ r) (upto_all es)

  pub upto-at : (i : ℕ) (es : List Entry) (d : Entry) → i < length es → f (get_or (upto i es) i d) ≡ get_or (map f es) i d
  upto-at i [] d l = absurd (not-suc-le-zero l)
  upto-at zero (e ∷ es) d l = refl
  upto-at (suc i) (e ∷ es) d l = upto-at i es d (le_of_suc-le-suc l)

  pub map-length : (es : List Entry) → length (map f es) ≡ length es
  map-length [] = refl
  map-length (e ∷ es) = ap suc (map-length es)

-- ---- the first that passes

module _ (p : Entry → Bool) (m : List Entry) where
  -- what is found of the first i entries, with what the others add
  abbrev pub SeenTo : Option ℕ → ℕ → Type 0
  SeenTo found i = unwrap_or found (i + find p (drop i m)) ≡ find p m

  seen-goes : (i : ℕ) (d : Entry) (found : Option ℕ) → i < length m → SeenTo found i → SeenTo (first_of found i (p (get_or m i d))) (i + 1)
  seen-goes i d (Some n) h was = was
  seen-goes i d None h was = go (p (get_or m i d)) refl
    where
      go : (b : Bool) → p (get_or m i d) ≡ b → SeenTo (cond b (Some i) None) (i + 1)
      go true e = find-here p m i d _ h e was
      go false e = find-go p m i d _ h e was

  seen-ends : (i : ℕ) (found : Option ℕ) → i ≡ length m → SeenTo found i → unwrap_or found (length m) ≡ find p m
  seen-ends i (Some n) e was = was
  seen-ends i None e was =
      let none : find p (drop i m) ≡ 0 = rw (drop_of_length-le m {i = i} (omega arith)) in
      omega arith

-- ---- a turn of the walk, and its end

module _ (f : Entry → Entry) (k : List ℕ) where
  pub record Walked (i : ℕ) (xs es : List Entry) (s : Seen) : Type 0 where
    pub row : es ≡ upto f i xs
    pub found : SeenTo (holds k) (map f xs) s.found i
    pub free : SeenTo unused (map f xs) s.free i

  pub walk-goes : (i : ℕ) (xs es : List Entry) (s s' : Seen) (d r : Entry) → i < length xs → Walked i xs es s → r ≡ f (get_or es i d) → s' ≡ seen_next s i r k
      → Walked (i + 1) xs (set es i r) s'
  walk-goes i xs es s s' d r less was left sees =
      let here : r ≡ f (get_or (upto f i xs) i d) = left ∙ ap (λ (z : List Entry). f (get_or z i d)) was.row in
      let at : r ≡ get_or (map f xs) i d = here ∙ upto-at f i xs d less in
      let below : i < length (map f xs) = rw (map-length f xs) less in
      record {
        row =
            ap (λ (z : List Entry). set z i r) was.row ∙ ap (set (upto f i xs) i) here ∙ upto_next f i xs d less
            ∙ ap (λ (j : ℕ). upto f j xs) (one_more_lem i);
        found = rw (sees, at) (seen-goes (holds k) (map f xs) i d s.found below was.found);
        free = rw (sees, at) (seen-goes unused (map f xs) i d s.free below was.free);
      }

  pub walk-ends : (i : ℕ) (xs es : List Entry) (s : Seen) → i ≡ length xs → Walked i xs es s
      → (es ≡ map f xs) × (unwrap_or s.found (length es) ≡ find (holds k) (map f xs)) × (unwrap_or s.free (length es) ≡ find unused (map f xs))
  walk-ends i xs es s all was =
      let row : es ≡ map f xs = was.row ∙ ap (λ (j : ℕ). upto f j xs) all ∙ upto_all f xs in
      let end : i ≡ length (map f xs) = all ∙ sym (map-length f xs) in
      (row, rw row (seen-ends (holds k) (map f xs) i s.found end was.found), rw row (seen-ends unused (map f xs) i s.free end was.free))

module _ (k : List ℕ) (l : List Entry) (n : ℕ) (is : n ≡ find (holds k) l) where
  pub place-held : n < 16 → n ≡ place k l
  unfolding place
  place-held h = rw (← is, lt-ltb n 16 h)

  pub place-free : 16 ≤ n → (m : ℕ) → m ≡ find unused l → m ≡ place k l
  unfolding place
  place-free h m free = rw (← is, le-ltb n 16 h) free
