-- The laws of the block value: the search for the exponent, and the cases of make. Assumes nothing.
use Rattle.std.specs.Prelude.{Some, None}
use mathlib.Core.Path.{◌≡◌, sym, ap, ◌∙◌}
use mathlib.Core.Bool.{Bool}
use mathlib.Core.Logic.{⊎_elim}
use Prim.Native.Nat.{ℕ, zero, suc, ◌+◌, ◌-◌, ◌*◌, ◌%◌, ◌^◌, ◌≤◌, ◌<◌}
use native.Mathlib.Nat.{mul_comm, mul-le-mul, eq-or-lt_of_le, lt_of_not-le, lt_of_lt_of_le, le_of_suc-le-suc}
use native.Mathlib.Omega.{arith}
use lib.Dec.{lit<}
use lib.Pow.{pow-add, pow_mono, pow-lt, shl_exact}
use borrow.Author.Tests.{le-leb, lt-leb, lt-ltb, le-ltb, eq-eqb, ne_eqb}
use Rattle.config.specs.Mode.{num_limit}
use Rattle.block_value.specs.Value.{largest_power, exponent_of, made, size_of}

-- ---- the largest power of two

-- k is the exponent of the largest power of two not above the size
pub largest-is : (most k size : ℕ) → k ≤ most → 2 ^ k ≤ size → size < 2 ^ (k + 1) → largest_power most size ≡ k
unfolding largest_power
largest-is zero k size h a b = omega arith
largest-is (suc most) k size h a b =
    ⊎_elim
    (λ (e : k ≡ suc most). rw (le-leb (2 ^ suc most) size (rw e at a)) (sym e))
    (λ (l : k < suc most).
    let below : size < 2 ^ suc most = lt_of_lt_of_le b (pow_mono (omega arith)) in
    rw (lt-leb (2 ^ suc most) size below) (largest-is most k size (le_of_suc-le-suc l) a b))
    (eq-or-lt_of_le h)

-- a power of two below 2 ^ 64 has an exponent of at most 63
pub exponent-most : (k size : ℕ) → 2 ^ k ≤ size → size < 2 ^ 64 → k ≤ 63
exponent-most k size a b =
    let l : k < 64 = lt_of_not-le (λ (h : 64 ≤ k). let p : 2 ^ 64 ≤ 2 ^ k = pow_mono {i = 64} h in omega arith) in
    omega arith

-- ---- size

-- what the code's shift comes to
pub size-shifted : (e : ℕ) → (16 * 2 ^ (e % 8)) % 2 ^ 64 ≡ size_of e
unfolding size_of
size-shifted e = shl_exact {a = 16} 5 (e % 8) 64 (lit< tt) (omega arith) ∙ mul_comm 16 (2 ^ (e % 8)) ∙ sym (pow-add 2 (e % 8) 4)

pub size_is : (e : ℕ) → e ≤ 7 → size_of e ≡ 2 ^ (e + 4)
unfolding size_of
size_is e h = ap (λ (n : ℕ). 2 ^ (n + 4)) (omega arith)

-- a size is a multiple of every smaller one
pub size-smaller : (e k : ℕ) → e ≤ 7 → k ≤ e → 2 ^ (e - k) * size_of k ≡ size_of e
size-smaller e k h l =
    let n : e - k + (k + 4) ≡ e + 4 = omega arith in
    rw (size_is k (omega arith), size_is e h) (sym (pow-add 2 (e - k) (k + 4)) ∙ ap (λ (n : ℕ). 2 ^ n) n)

pub size-least : (e : ℕ) → 16 ≤ size_of e
unfolding size_of
size-least e = pow_mono {i = 4} (omega arith)

pub size-most : (e : ℕ) → size_of e ≤ 2048
unfolding size_of
size-most e = pow_mono {j = 11} (omega arith)

-- a num of 32 bits times a size is below 2 ^ 43
pub start-below : (num size : ℕ) → num < 2 ^ 32 → size ≤ 2048 → num * size < 2 ^ 43
start-below num size h k = let p : num * size ≤ 4294967295 * 2048 = mul-le-mul {n₂ = 4294967295} (omega arith) k in omega arith

-- the exponent of a size is the one it was made of
pub exponent-size : (e : ℕ) → e ≤ 7 → exponent_of (size_of e) ≡ e
exponent-size e h =
    let s = size_is e h in
    let next : 2 ^ (e + 4) < 2 ^ (e + 4 + 1) = pow-lt (omega arith) in
    let k : largest_power 63 (size_of e) ≡ e + 4 = largest-is 63 (e + 4) (size_of e) (omega arith) (omega arith) (omega arith) in
    omega arith

-- ---- make, by its cases

module _ (strict : Bool) (num : ℕ) (more : Bool) (size : ℕ) where
  pub made-zero : size ≡ 0 → made strict num more size ≡ None
  unfolding made
  made-zero h = rw (eq-eqb size 0 h)

  pub made-large : (size ≡ 0 → ⊥) → 7 < exponent_of size → made strict num more size ≡ None
  unfolding made
  made-large z h = rw (ne_eqb size 0 z, lt-ltb 7 (exponent_of size) h)

  pub made-far : (size ≡ 0 → ⊥) → exponent_of size ≤ 7 → num_limit strict < num → made strict num more size ≡ None
  unfolding made
  made-far z h n = rw (ne_eqb size 0 z, le-ltb 7 (exponent_of size) h, lt-ltb (num_limit strict) num n)

  pub made-well : (size ≡ 0 → ⊥) → (e : ℕ) → e ≡ exponent_of size → e ≤ 7 → num ≤ num_limit strict
      → made strict num more size ≡ Some (record { num = num; more = more; size_exponent = e })
  unfolding made
  made-well z e q h n = rw (q, ne_eqb size 0 z, le-ltb 7 (exponent_of size) (rw q at h), le-ltb (num_limit strict) num n)
