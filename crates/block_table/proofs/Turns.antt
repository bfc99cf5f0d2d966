-- The laws that loops over the row use: what one turn takes off the front of what is left. Assumes nothing.
use mathlib.Core.Path.{◌≡◌, refl, sym, ap₂, ◌∙◌}
use mathlib.Core.List.{List, [], ◌∷◌, ◌++◌, map}
use mathlib.Core.Bool.{Bool, true, false, not, cond, ◌&&◌, ◌||◌}
use Prim.Native.Nat.{ℕ, suc, zero, ◌+◌, ◌≤◌, ◌<◌}
use native.Mathlib.Numerals.{add-one}
use native.Mathlib.Omega.{arith}
use lib.ListN.{length, get_or, take, drop, set}
use lib.Seq.{drop-cons, drop-set-lt, take-suc-set, append_snoc}
use borrow.Author.Tests.{not-false}
use Rattle.config.specs.declared.Config.{Config}
use Rattle.entries.specs.declared.Entry.{Entry}
use Rattle.keys.specs.Lists.{all}
use Rattle.entries.specs.Entries.{swept, sweep, entry_ok}
use Rattle.pieces.proofs.Tests.{ands}
use Rattle.keys.proofs.Turns.{drop-step, all_end}
use Rattle.entries.specs.Quick.{sized, unexpired}
use Rattle.entries.proofs.Cases.{kept_by}
use Rattle.entries.proofs.Turns.{nil}

-- below the length of a row it does not matter what stands past its end
pub get_d_any : (l : List Entry) (i : ℕ) (d e : Entry) → i < length l → get_or l i d ≡ get_or l i e
get_d_any [] i d e h = absurd (omega arith)
get_d_any (x ∷ l) zero d e h = refl
get_d_any (x ∷ l) (suc i) d e h = get_d_any l i d e (omega arith)

-- ---- expiry

module _ (c : Config) (clock : ℕ) where
  swept_all : (lifetime time : ℕ) (l : List Entry) → all (entry_ok c clock) l ≡ true → all sized l ≡ true → all (unexpired lifetime time) l ≡ true
      → map (swept lifetime time) l ≡ l
  swept_all lifetime time [] h z x = refl
  swept_all lifetime time (e ∷ rest) h z x =
      let one = kept_by c clock lifetime time e e.used refl (search ands) (search ands) (search ands) in
      ap₂ ◌∷◌ one (swept_all lifetime time rest (search ands) (search ands) (search ands))

  -- where nothing is expired a sweep leaves the row as it is
  pub sweep-kept : (lifetime time : ℕ) (l : List Entry) (freed : Bool) → all (entry_ok c clock) l ≡ true → all sized l ≡ true
      → freed ≡ not (all (unexpired lifetime time) l) → cond freed (sweep lifetime time l) l ≡ sweep lifetime time l
  unfolding sweep
  sweep-kept lifetime time l true h z x = refl
  sweep-kept lifetime time l false h z x = sym (swept_all lifetime time l h z (not-false _ (sym x)))

-- What is found expired so far, and what is left to look at.
module _ (p : Entry → Bool) (l : List Entry) (i : ℕ) (freed : Bool) (a : Bool) where
  pub freed-go : (gone : Bool) → i < length l → p (get_or l i nil) ≡ not gone → (freed || not (all p (drop i l))) ≡ a
      → ((freed || gone) || not (all p (drop (i + 1) l))) ≡ a
  freed-go gone h e was = turn freed gone (all p (drop (i + 1) l)) ∙ rw (drop-step l i nil h, e) at was
    where
      turn : (f g b : Bool) → ((f || g) || not b) ≡ (f || not (not g && b))
      turn true g b = refl
      turn false true b = refl
      turn false false b = refl

  pub freed-end : length l ≤ i → (freed || not (all p (drop i l))) ≡ a → freed ≡ a
  freed-end h was = sym (or-false freed) ∙ rw (all_end p l i h) at was
    where
      or-false : (f : Bool) → (f || false) ≡ f
      or-false true = refl
      or-false false = refl

-- One more entry of the row is mapped in place.
module _ (f : Entry → Entry) (row : List Entry) (i : ℕ) (h : i < length row) where
  pub map-set : (v : Entry) → f (get_or row i nil) ≡ v → take (i + 1) (set row i v) ++ map f (drop (i + 1) (set row i v)) ≡ take i row ++ map f (drop i row)
  map-set v e = rw (add-one, take-suc-set row i v h, drop-set-lt (suc i) row i v (omega arith), append_snoc, drop-cons row i nil h, e)
