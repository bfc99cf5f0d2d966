-- Where no more pairs are equal than there are places, no number stands twice. Assumes nothing.
use mathlib.Core.Path.{◌≡◌, refl, ◌∙◌}
use mathlib.Core.List.{List, [], ◌∷◌, ◌++◌}
use mathlib.Core.Bool.{true}
use Prim.Native.Nat.{ℕ, ◌+◌, ◌≤◌}
use native.Mathlib.Omega.{arith}
use lib.ListN.{length}
use lib.Seq.{append_snoc}
use lib.Dec.{eqb}
use borrow.Author.Tests.{eqb-true, eq-eqb}
use Rattle.tags.specs.Tags.{times, pairs}

times-append : (d : ℕ) (xs ys : List ℕ) → times d (xs ++ ys) ≡ times d xs + times d ys
times-append d [] ys = omega arith
times-append d (x ∷ xs) ys =
    let e : times d (xs ++ ys) ≡ times d xs + times d ys = times-append d xs ys in
    omega arith

times-here : (x : ℕ) (before xs : List ℕ) → times x (before ++ x ∷ xs) ≡ times x before + (1 + times x xs)
times-here x before xs = times-append x before (x ∷ xs) ∙ rw (eq-eqb x x refl)

-- Each number of a row equals itself.
pairs-least : (before xs : List ℕ) → length xs ≤ pairs xs (before ++ xs)
pairs-least before [] = omega arith
pairs-least before (x ∷ xs) =
    let a : times x (before ++ x ∷ xs) ≡ times x before + (1 + times x xs) = times-here x before xs in
    let b : length xs ≤ pairs xs (before ++ x ∷ xs) = rw (append_snoc before x xs) at (pairs-least (before ++ (x ∷ [])) xs) in
    omega arith

abbrev pub Apart : List ℕ → Type 0
Apart [] = Unit {0}
Apart (x ∷ xs) = (times x xs ≡ 0) × Apart xs

no-twice : (before xs : List ℕ) → pairs xs (before ++ xs) ≤ length xs → Apart xs
no-twice before [] h = tt
no-twice before (x ∷ xs) h =
    let a : times x (before ++ x ∷ xs) ≡ times x before + (1 + times x xs) = times-here x before xs in
    let b : length xs ≤ pairs xs (before ++ x ∷ xs) = rw (append_snoc before x xs) at (pairs-least (before ++ (x ∷ [])) xs) in
    (omega arith, no-twice (before ++ (x ∷ [])) xs (rw (append_snoc before x xs) (omega arith)))

-- What `apart` finds.
pub told-apart : (row : List ℕ) → length row ≡ 16 → eqb (pairs row row) 16 ≡ true → Apart row
told-apart row len h =
    let e : pairs row row ≡ 16 = eqb-true _ _ h in
    no-twice [] row (omega arith)
