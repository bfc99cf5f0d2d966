-- The text of a line: what the loops over it hold, and what is lent of it. Assumes nothing.
use mathlib.Core.Path.{◌≡◌, refl, sym, ap, ◌∙◌}
use mathlib.Core.Bool.{Bool, true, false, cond, ◌&&◌, and-false}
use mathlib.Core.List.{List, [], ◌∷◌, ◌++◌, map}
use Prim.Native.Nat.{ℕ, suc, ◌+◌, ◌-◌, ◌≤◌, ◌<◌}
use native.Mathlib.Numerals.{add-one}
use native.Mathlib.Omega.{arith}
use lib.Dec.{eqb}
use Rattle.std.specs.Char.{to_ascii_lowercase}
use Rattle.std.proofs.lemmas.Bool.Decides.{nat_tests}
use lib.ListN.{length, get_or, take, drop, drop_of_length-le, get_or-map}
use lib.Seq.{drop-cons, take-suc, take-length, length-take-le}
use borrow.Author.Tests.{ne_eqb}
use Rattle.hex_line.specs.Line.{is_blank, passing, end_of, lower}

-- ---- bytes that pass a test

-- the first i bytes pass
pub record Passed (test : ℕ → Bool) (l : List ℕ) (i : ℕ) : Type 0 where
  pub within : i ≤ length l
  pub is : passing test l ≡ i + passing test (drop i l)

pub passed_start : (test : ℕ → Bool) (l : List ℕ) → Passed test l 0
passed_start test l = record { within = omega arith; is = omega arith }

module _ {test : ℕ → Bool} {l : List ℕ} {i : ℕ} (p : Passed test l i) where
  pub passed-turn : i < length l → test (get_or l i 0) ≡ true → Passed test l (i + 1)
  unfolding passing
  passed-turn h e =
      let f : passing test (drop i l) ≡ suc (passing test (drop (i + 1) l)) = rw (add-one, drop-cons l i 0 h, e) in
      record { within = omega arith; is = omega (arith, p.is, f) }

  pub passed-stop : i < length l → test (get_or l i 0) ≡ false → i ≡ passing test l
  unfolding passing
  passed-stop h e =
      let f : passing test (drop i l) ≡ 0 = rw (drop-cons l i 0 h, e) in
      omega (arith, p.is, f)

  pub passed-end : length l ≤ i → length l ≡ passing test l
  unfolding passing
  passed-end h =
      let f : passing test (drop i l) ≡ 0 = rw (drop_of_length-le l {i = i} h) in
      omega (arith, p.is, p.within, f)

-- ---- blanks at the end

end-last : (xs : List ℕ) (x : ℕ) → end_of (xs ++ (x ∷ [])) ≡ cond (is_blank x) (end_of xs) (suc (length xs))
unfolding end_of
end-last [] x = go (is_blank x)
  where
    go : (b : Bool) → cond (b && eqb 0 0) 0 (suc 0) ≡ cond b 0 (suc 0)
    go true = refl
    go false = refl
end-last (y ∷ xs) x = ap (λ (n : ℕ). cond (is_blank y && eqb n 0) 0 (suc n)) (end-last xs x) ∙ go (is_blank x)
  where
    go : (b : Bool) → cond (is_blank y && eqb (cond b (end_of xs) (suc (length xs))) 0) 0 (suc (cond b (end_of xs) (suc (length xs))))
        ≡ cond b (cond (is_blank y && eqb (end_of xs) 0) 0 (suc (end_of xs))) (suc (suc (length xs)))
    go true = refl
    go false = rw (ne_eqb (suc (length xs)) 0 (λ w. omega (arith, w)), and-false (is_blank y))

-- the bytes behind the rest are blanks
pub record Bare (l rest : List ℕ) : Type 0 where
  pub within : length rest ≤ length l
  pub is : end_of l ≡ end_of rest

last_of : (rest : List ℕ) → 0 < length rest
    → end_of rest ≡ cond (is_blank (get_or rest (length rest - 1) 0)) (end_of (take (length rest - 1) rest)) (length rest)
last_of rest h =
    let n : ℕ = length rest - 1 in
    let e : length rest ≡ suc n = omega arith in
    let whole : take (suc n) rest ≡ rest = ap (λ (j : ℕ). take j rest) (sym e) ∙ take-length rest in
    let front : suc (length (take n rest)) ≡ length rest = omega (arith, length-take-le n rest (omega arith)) in
    ap end_of (sym whole ∙ take-suc rest n 0 (omega arith)) ∙ end-last (take n rest) (get_or rest n 0)
    ∙ ap (λ (j : ℕ). cond (is_blank (get_or rest n 0)) (end_of (take n rest)) j) front

module _ {l rest : List ℕ} (b : Bare l rest) (h : 0 < length rest) where
  pub bare-turn : is_blank (get_or rest (length rest - 1) 0) ≡ true → Bare l (take (length rest - 1) rest)
  bare-turn e = record { within = omega (arith, b.within, length-take-le (length rest - 1) rest (omega arith)); is = b.is ∙ last_of rest h ∙ rw e }

  pub bare-stop : is_blank (get_or rest (length rest - 1) 0) ≡ false → length rest ≡ end_of l
  bare-stop e = sym (b.is ∙ last_of rest h ∙ rw e)

pub bare-none : {l rest : List ℕ} → Bare l rest → length rest ≡ 0 → 0 ≡ end_of l
unfolding end_of
bare-none {rest = []} b h = sym b.is
bare-none {rest = x ∷ rest} b h = absurd (omega arith)

-- ---- lower case

lower-is : (x : ℕ) → to_ascii_lowercase x ≡ lower x
unfolding lower
lower-is x = grind (arith, nat_tests)

pub lower-at : (l : List ℕ) (i : ℕ) → to_ascii_lowercase (get_or l i 0) ≡ get_or (map lower l) i 0
unfolding lower
lower-at l i = lower-is (get_or l i 0) ∙ sym (get_or-map lower l i 0)
