-- An option's number has five digits at most. Assumes nothing.
use mathlib.Core.Path.{◌≡◌, refl}
use mathlib.Core.Bool.{Bool, true, false, cond}
use mathlib.Core.List.{List, [], ◌∷◌, ◌++◌}
use Prim.Native.Nat.{ℕ, zero, suc, ◌+◌, ◌*◌, ◌/◌, ◌%◌, ◌^◌, ◌≤◌, ◌<◌}
use native.Mathlib.Nat.{pow-suc}
use native.Mathlib.Omega.{arith}
use lib.Dec.{ltb}
use lib.ListN.{length, length-append}
use borrow.Author.Tests.{ltb-false}
use Rattle.script_text.specs.Text.{decimal_from, decimal, shown}
use Rattle.script_text.proofs.Laws.{shown-length}
use Rattle.parts_text.specs.Parts.{option_text}

-- a number below 10 ^ k has no more than k digits, however many are allowed
digits : (j k n : ℕ) → n < 10 ^ suc k → length (decimal_from j n) ≤ suc k
unfolding decimal_from
digits zero k n h = omega arith
digits (suc j) k n h = go (ltb n 10) refl k h (digits j)
  where
    go : (b : Bool) → ltb n 10 ≡ b → (i : ℕ) → n < 10 ^ suc i → ((l x : ℕ) → x < 10 ^ suc l → length (decimal_from j x) ≤ suc l)
        → length (cond b ((48 + n) ∷ []) (decimal_from j (n / 10) ++ ((48 + n % 10) ∷ []))) ≤ suc i
    go true e i l more = omega arith
    go false e zero l more = absurd (omega (arith, ltb-false n 10 e, l))
    go false e (suc i) l more =
        rw (length-append (decimal_from j (n / 10)) ((48 + n % 10) ∷ [])) (omega (arith, more i (n / 10) (omega (arith, pow-suc 10 (suc i), l))))

pub five-digits : (n : ℕ) → n < 65536 → length (decimal n) ≤ 5
unfolding decimal
five-digits n h = digits 20 4 n (omega arith)

pub option-length : (number : ℕ) (value : List ℕ) → number < 65536 → length (option_text number value) ≤ 2 * length value + 7
unfolding option_text
option-length number value h = rw (length-append (decimal number) (58 ∷ shown value)) (omega (arith, five-digits number h, shown-length value))
