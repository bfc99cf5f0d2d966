-- Laws of Bool tests: what a conjunction says, how a test is refuted, what a test decides, and when two tests are the same. Assumes nothing.
use mathlib.Core.Bool.{Bool, true, false, cond, not, ◌&&◌, true≢false, false≢true}
use mathlib.Core.Path.{◌≡◌, refl, sym, ◌∙◌}

pub and_left : (a b : Bool) → (a && b) ≡ true → a ≡ true
and_left true b e = refl
and_left false b e = e

pub and_right : (a b : Bool) → (a && b) ≡ true → b ≡ true
and_right true b e = e
and_right false b e = absurd (false≢true e)

-- `search ands` takes a conjunct out of a conjunction that is given
pub ruleset ands = (and_left, and_right)

pub both : (a b : Bool) → (a && b) ≡ true → (a ≡ true) × (b ≡ true)
both a b e = (and_left a b e, and_right a b e)

pub and_both : (a b : Bool) → a ≡ true → b ≡ true → (a && b) ≡ true
and_both true b p q = q
and_both false b p q = p

pub false-is-not : (a : Bool) → a ≡ false → not a ≡ true
false-is-not true e = sym e
false-is-not false e = refl

pub refute : (a : Bool) → (a ≡ true → ⊥) → a ≡ false
refute true h = absurd (h refl)
refute false h = refl

-- a test cannot go both ways
pub clash-of : (a : Bool) → a ≡ true → a ≡ false → ⊥
clash-of a p q = true≢false (sym p ∙ q)

-- a test goes one way or the other
pub by_cases : {P : Type 0} (a : Bool) → (a ≡ true → P) → (a ≡ false → P) → P
by_cases true t f = t refl
by_cases false t f = f refl

-- a property of both branches is one of the choice
pub on_test : {A : Type 0} (P : A → Type 0) (b : Bool) {x y : A} → (b ≡ true → P x) → (b ≡ false → P y) → P (cond b x y)
on_test P true t f = t refl
on_test P false t f = f refl

-- each holds where the other does
pub same_test : (a b : Bool) → (a ≡ true → b ≡ true) → (b ≡ true → a ≡ true) → a ≡ b
same_test true true f g = refl
same_test true false f g = sym (f refl)
same_test false true f g = g refl
same_test false false f g = refl
