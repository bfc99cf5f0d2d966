-- The place of a key, found on the row before it is swept. Assumes nothing.
use mathlib.Core.Path.{◌≡◌, refl, sym}
use mathlib.Core.List.{List, [], ◌∷◌, map}
use mathlib.Core.Bool.{Bool, true, false, cond}
use Prim.Native.Nat.{ℕ, ◌≤◌, ◌<◌}
use native.Mathlib.Omega.{arith}
use lib.Dec.{ltb}
use borrow.Author.Tests.{lt-ltb, le-ltb, ltb-true, ltb-false}
use Rattle.entries.specs.declared.Entry.{Entry}
use Rattle.keys.specs.Lists.{find}
use Rattle.keys.specs.Keys.{Name}
use Rattle.entries.specs.Entries.{holds, swept, sweep, unused}
use Rattle.std.specs.Prelude.{Some, None}
use Rattle.key_place.specs.Place.{row_index, place}
use Rattle.entries.specs.Quick.{holds_live, not_live}
use Rattle.entries.proofs.Cases.{holds-swept, unused-swept}

pub row_index-here : {i n : ℕ} → i ≡ n → i < 16 → Some i ≡ row_index n
row_index-here {i} e h = rw (← e, lt-ltb i 16 h)

some-of : (b : Bool) (n : ℕ) {i : ℕ} → ltb n 16 ≡ b → cond b (Some n) None ≡ Some i → (i ≡ n) × (i < 16)
some-of true n {i} l e =
    let is : n ≡ i = cc in
    (sym is, omega (arith, ltb-true n 16 l, is))
some-of false n l e = absurd (cc)

pub row_index-some : (n : ℕ) {i : ℕ} → row_index n ≡ Some i → (i ≡ n) × (i < 16)
row_index-some n e = some-of (ltb n 16) n refl e

none-of : (b : Bool) (n : ℕ) → ltb n 16 ≡ b → cond b (Some n) None ≡ None → 16 ≤ n
none-of true n l e = absurd (cc)
none-of false n l e = ltb-false n 16 l

pub row_index-none : (n : ℕ) → row_index n ≡ None → 16 ≤ n
row_index-none n e = none-of (ltb n 16) n refl e

find-swept : (p q : Entry → Bool) (lifetime time : ℕ) → ((e : Entry) → p (swept lifetime time e) ≡ q e) → (l : List Entry) → find p (map (swept lifetime time) l) ≡ find q l
find-swept p q lifetime time is [] = refl
find-swept p q lifetime time is (e ∷ rest) = rw (is e, find-swept p q lifetime time is rest)

module _ (k : Name) (lifetime time : ℕ) (l : List Entry) where
  pub find-key-swept : find (holds k) (sweep lifetime time l) ≡ find (holds_live lifetime time k) l
  unfolding sweep
  find-key-swept = find-swept (holds k) (holds_live lifetime time k) lifetime time (holds-swept k lifetime time) l

  pub find-free-swept : find unused (sweep lifetime time l) ≡ find (not_live lifetime time) l
  unfolding sweep
  find-free-swept = find-swept unused (not_live lifetime time) lifetime time (unused-swept lifetime time) l

  pub place_kept : (i : ℕ) → i ≡ find (holds_live lifetime time k) l → i < 16 → place k (sweep lifetime time l) ≡ i
  unfolding place
  place_kept i e h = rw (find-key-swept, ← e, lt-ltb i 16 h)

  pub place-new : (i : ℕ) → i ≡ find (holds_live lifetime time k) l → 16 ≤ i → place k (sweep lifetime time l) ≡ find (not_live lifetime time) l
  unfolding place
  place-new i e h = rw (find-key-swept, ← e, le-ltb i 16 h, find-free-swept)
