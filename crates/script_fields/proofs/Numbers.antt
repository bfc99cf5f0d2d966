-- Decimals: a turn of the loop that reads one, and when it is refused. Assumes nothing.
use mathlib.Core.Path.{◌≡◌, refl, sym, ap, ◌∙◌}
use mathlib.Core.Bool.{Bool, true, false, cond, ◌&&◌, and-false}
use mathlib.Core.List.{List, [], ◌∷◌}
use Prim.Native.Nat.{ℕ, ◌+◌, ◌-◌, ◌*◌, ◌^◌, ◌≤◌, ◌<◌}
use native.Mathlib.Numerals.{add-one}
use native.Mathlib.Omega.{arith}
use lib.Dec.{ltb, leb}
use lib.ListN.{length, get_or, drop, drop_of_length-le}
use lib.Seq.{drop-cons}
use borrow.Author.Tests.{lt-ltb, le-ltb, leb-true}
use Rattle.std.specs.Prelude.{Some, None}
use Rattle.std.proofs.lemmas.Option.{cond_some}
use Rattle.script_fields.specs.Fields.{is_digit, all_digits, value_from, value, is_number, number_of}
use Rattle.pieces.proofs.Tests.{both}

pub digits_step : (text : List ℕ) (i : ℕ) → i < length text → all_digits (drop i text) ≡ (is_digit (get_or text i 0) && all_digits (drop (i + 1) text))
unfolding all_digits
digits_step text i h = rw (add-one, drop-cons text i 0 h)

pub value-step : (text : List ℕ) (s i : ℕ) → i < length text → value_from s (drop i text) ≡ value_from (s * 10 + (get_or text i 0 - 48)) (drop (i + 1) text)
unfolding value_from
value-step text s i h = rw (add-one, drop-cons text i 0 h)

-- more digits say no less
pub value-least : (s : ℕ) (xs : List ℕ) → s ≤ value_from s xs
unfolding value_from
value-least s [] = omega arith
value-least s (x ∷ xs) = omega (arith, value-least (s * 10 + (x - 48)) xs)

-- what holds after i digits
abbrev pub Upto : List ℕ → ℕ → ℕ → Type 0
Upto text sum i = (i ≤ length text) × (sum < 2 ^ 64) × (all_digits text ≡ all_digits (drop i text)) × (value text ≡ value_from sum (drop i text))

pub upto-start : (text : List ℕ) → Upto text 0 0
unfolding value
upto-start text = (omega arith, omega arith, refl, refl)

pub no_digit_lem : (text : List ℕ) → length text ≡ 0 → number_of text ≡ None
unfolding number_of is_number
no_digit_lem text h = rw (le-ltb 0 (length text) (omega arith))

pub bad-digit : (text : List ℕ) (sum i : ℕ) → Upto text sum i → i < length text → is_digit (get_or text i 0) ≡ false → number_of text ≡ None
unfolding number_of is_number
bad-digit text sum i u h e =
    let d : all_digits text ≡ false = u.2 ∙ digits_step text i h ∙ rw e in
    rw (d, and-false (ltb 0 (length text)))

pub too_large_lem : (text : List ℕ) (sum i : ℕ) → Upto text sum i → i < length text → 2 ^ 64 ≤ sum * 10 + (get_or text i 0 - 48) → number_of text ≡ None
unfolding number_of is_number
too_large_lem text sum i u h l =
    let v : 2 ^ 64 ≤ value text = omega (arith, u.3 ∙ value-step text sum i h, value-least (sum * 10 + (get_or text i 0 - 48)) (drop (i + 1) text)) in
    rw (le-ltb (value text) (2 ^ 64) v, and-false (all_digits text), and-false (ltb 0 (length text)))

pub upto_turn : (text : List ℕ) (sum i s : ℕ) → Upto text sum i → i < length text → is_digit (get_or text i 0) ≡ true → s ≡ sum * 10 + (get_or text i 0 - 48) → s < 2 ^ 64 → Upto text s (i + 1)
upto_turn text sum i s u h e w l =
    (omega arith, l, u.2 ∙ digits_step text i h ∙ rw e, u.3 ∙ value-step text sum i h ∙ ap (λ (k : ℕ). value_from k (drop (i + 1) text)) (sym w))

pub upto_done : (text : List ℕ) (sum i : ℕ) → Upto text sum i → length text ≤ i → (length text ≡ 0 → ⊥) → number_of text ≡ Some sum
unfolding number_of is_number all_digits value_from
upto_done text sum i u h p =
    let n : drop i text ≡ [] = drop_of_length-le text {i = i} h in
    let d : all_digits text ≡ true = u.2 ∙ rw n in
    let v : value text ≡ sum = u.3 ∙ rw n in
    rw (d, v, lt-ltb 0 (length text) (omega arith), lt-ltb sum (2 ^ 64) u.1)

-- ---- what an answer tells

pub cond_none : {A : Type 0} (b : Bool) (x : A) → None ≡ cond b (Some x) None → b ≡ false
cond_none true x e = cc
cond_none false x e = refl

pub number-good : (text : List ℕ) (n : ℕ) → Some n ≡ number_of text → (is_number text ≡ true) × (n ≡ value text)
unfolding number_of
number-good text n e = let w = cond_some (is_number text) (value text) n (sym e) in (w.0, sym w.1)

pub number-bad : (text : List ℕ) → None ≡ number_of text → is_number text ≡ false
unfolding number_of
number-bad text e = cond_none (is_number text) (value text) e

pub in-range : (low x high : ℕ) → (leb low x && leb x high) ≡ true → (low ≤ x) × (x ≤ high)
in-range low x high e = let h = both (leb low x) (leb x high) e in (leb-true low x h.0, leb-true x high h.1)
