-- The numbers of the table strictly rise: one test over the whole table, which antt computes, and the law that makes of it the order of any
-- two numbers. Assumes nothing.
use mathlib.Core.Path.{◌≡◌, refl, sym, ap, ◌∙◌}
use mathlib.Core.Bool.{Bool, true, ◌&&◌}
use mathlib.Core.List.{List, [], ◌∷◌}
use Prim.Native.Nat.{ℕ, zero, suc, ◌+◌, ◌<◌}
use native.Mathlib.Omega.{arith}
use lib.Dec.{ltb}
use lib.ListN.{length, get_or, drop, length-drop}
use lib.Seq.{get_or-drop}
use Rattle.std.proofs.lemmas.List.{drop-map}
use borrow.Author.Tests.{ltb-true}
use Rattle.pieces.proofs.Tests.{both}
use Rattle.option_table.specs.Options.{Row, table, numbers}

-- each number is above the one before it, and the first above `low`
abbrev rising_from : ℕ → List ℕ → Bool
rising_from low [] = true
rising_from low (n ∷ l) = ltb low n && rising_from n l

above : (low : ℕ) (l : List ℕ) → rising_from low l ≡ true → (k : ℕ) → k < length l → low < get_or l k 0
above low [] t k h = absurd (omega arith)
above low (n ∷ l) t zero h = ltb-true low n (both (ltb low n) (rising_from n l) t).0
above low (n ∷ l) t (suc k) h =
    let t' = both (ltb low n) (rising_from n l) t in
    omega (arith, ltb-true low n t'.0, above n l t'.1 k (omega arith))

rises : (low : ℕ) (l : List ℕ) → rising_from low l ≡ true → (i j : ℕ) → i < j → j < length l → get_or l i 0 < get_or l j 0
rises low [] t i j h below = absurd (omega arith)
rises low (n ∷ l) t i zero h below = absurd (omega arith)
rises low (n ∷ l) t zero (suc j) h below = above n l (both (ltb low n) (rising_from n l) t).1 j (omega arith)
rises low (n ∷ l) t (suc i) (suc j) h below = rises n l (both (ltb low n) (rising_from n l) t).1 i j (omega arith) (omega arith)

pub rising : (i j : ℕ) → i < j → j < 19 → get_or (numbers table) i 0 < get_or (numbers table) j 0
rising = rises 0 (numbers table) refl

-- so a number below the one at a place is in no row from there on
pub not_ahead : (n i : ℕ) → n < get_or (numbers table) i 0 → (k : ℕ) → k < length (drop i table) → get_or (numbers (drop i table)) k 0 ≡ n → ⊥
not_ahead n i h k l e =
    let far : i + k < 19 = omega (arith, length-drop i table) in
    let number : get_or (numbers table) (i + k) 0 ≡ n = sym (get_or-drop i (numbers table) k 0) ∙ ap (λ (xs : List ℕ). get_or xs k 0) (drop-map (λ (r : Row). r.number) i table) ∙ e in
    let here : k ≡ 0 → ⊥ = λ z. let same : i + k ≡ i = omega arith in omega (arith, h, ap (λ (j : ℕ). get_or (numbers table) j 0) same, number) in
    omega (arith, h, rising i (i + k) (omega arith) far, number)
