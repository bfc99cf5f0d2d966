-- What `all` of an iterator answers is what `all` of a list is. Assumes nothing.
use Rattle.std.proofs.Common.{◌≡◌, refl, sym, ℕ, zero, suc, ◌<◌, Bool, true, false, List, [], ◌∷◌, length, arith}
use mathlib.Core.Bool.{and-false}
use Rattle.std.specs.Bool.{MatchBool}
use Rattle.std.specs.List.{AllWithin, HoldsAt}
use Rattle.keys.specs.Lists.{all}

module _ {A : Type 0} (p : A → Bool) where
  each : (l : List A) → AllWithin (λ x. p x ≡ true) l 0 (length l) → true ≡ all p l
  each [] h = refl
  each (x ∷ l) h = rw (h 0 x (omega arith) (omega arith)) (each l (λ k d low high. h (suc k) d (omega arith) (omega arith)))

  one-fails : (l : List A) (k : ℕ) → k < length l → HoldsAt (λ x. p x ≡ false) l k → false ≡ all p l
  one-fails [] k h fails = absurd (omega arith)
  one-fails (x ∷ l) zero h fails = rw (fails x)
  one-fails (x ∷ l) (suc k) h fails = rw (← (one-fails l k (omega arith) fails)) (sym (and-false (p x)))

  pub decides_all : (l : List A) (r : Bool)
      → MatchBool r (AllWithin (λ x. p x ≡ true) l 0 (length l)) ((k : ℕ) × (k < length l) × HoldsAt (λ x. p x ≡ false) l k) → r ≡ all p l
  decides_all l true h = each l h
  decides_all l false h = one-fails l h.0 h.1 h.2
