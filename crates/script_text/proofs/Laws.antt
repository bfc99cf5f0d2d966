-- The laws of what is written. Assumes nothing.
use mathlib.Core.Path.{◌≡◌, refl, sym, ap, ◌∙◌}
use mathlib.Core.Bool.{Bool, true, false, cond}
use mathlib.Core.List.{List, [], ◌∷◌, ◌++◌}
use Prim.Native.Nat.{ℕ, zero, suc, ◌+◌, ◌*◌, ◌/◌, ◌%◌, ◌^◌, ◌≤◌, ◌<◌}
use native.Mathlib.Nat.{pow-suc}
use native.Mathlib.Numerals.{add-one}
use native.Mathlib.Omega.{arith}
use lib.Dec.{ltb}
use lib.ListN.{length, get_or, set, take, length-append}
use lib.Seq.{take-suc}
use borrow.Author.Tests.{lt-ltb, le-ltb}
use Rattle.pieces.specs.Memory.{Put}
use Rattle.pieces.proofs.Puts.{put-length, put-none, put_one, put_then}
use Rattle.script_text.specs.Text.{decimal_from, decimal, hex_digit, hex, shown}

-- ---- decimals

pub decimal-length-from : (k n : ℕ) → length (decimal_from k n) ≤ k
unfolding decimal_from
decimal-length-from zero n = omega arith
decimal-length-from (suc k) n = go (ltb n 10) (decimal-length-from k (n / 10))
  where
    go : (b : Bool) → length (decimal_from k (n / 10)) ≤ k → length (cond b ((48 + n) ∷ []) (decimal_from k (n / 10) ++ ((48 + n % 10) ∷ []))) ≤ suc k
    go true h = omega arith
    go false h = rw (length-append (decimal_from k (n / 10)) ((48 + n % 10) ∷ [])) (omega arith)

pub decimal-length : (n : ℕ) → length (decimal n) ≤ 20
unfolding decimal
decimal-length n = decimal-length-from 20 n

-- one digit more to spend changes nothing, where there are enough
enough : (k n : ℕ) → n < 10 ^ suc k → decimal_from (suc (suc k)) n ≡ decimal_from (suc k) n
unfolding decimal_from
enough zero n h = let l : n < 10 = h in rw (lt-ltb n 10 l)
enough (suc k) n h = ap (λ (l : List ℕ). cond (ltb n 10) ((48 + n) ∷ []) (l ++ ((48 + n % 10) ∷ []))) (enough k (n / 10) (omega (arith, pow-suc 10 (suc k), h)))

pub decimal-one : (n : ℕ) → n < 10 → decimal n ≡ (48 + n % 10) ∷ []
unfolding decimal decimal_from
decimal-one n h = let e : n % 10 ≡ n = omega arith in rw (e, lt-ltb n 10 h)

pub decimal-more : (n : ℕ) → 10 ≤ n → n < 2 ^ 64 → decimal n ≡ decimal (n / 10) ++ ((48 + n % 10) ∷ [])
unfolding decimal decimal_from
decimal-more n h k = rw (le-ltb n 10 h) (ap (λ (l : List ℕ). l ++ ((48 + n % 10) ∷ [])) (sym (enough 18 (n / 10) (omega arith))))

pub one-digit : (n d : ℕ) → n < 10 → d ≡ 48 + n % 10 → d ∷ [] ≡ decimal n
one-digit n d h e = rw e (sym (decimal-one n h))

pub last-digit : (n d : ℕ) → 10 ≤ n → n < 2 ^ 64 → d ≡ 48 + n % 10 → decimal (n / 10) ++ (d ∷ []) ≡ decimal n
last-digit n d h k e = rw e (sym (decimal-more n h k))

pub one-longer : (n : ℕ) → 10 ≤ n → n < 2 ^ 64 → length (decimal n) ≡ length (decimal (n / 10)) + 1
one-longer n h k = rw (decimal-more n h k, length-append (decimal (n / 10)) ((48 + n % 10) ∷ []))

-- ---- hex

pub hex-append : (xs ys : List ℕ) → hex (xs ++ ys) ≡ hex xs ++ hex ys
unfolding hex
hex-append [] ys = refl
hex-append (x ∷ xs) ys = ap (λ (l : List ℕ). hex_digit (x / 16) ∷ hex_digit (x % 16) ∷ l) (hex-append xs ys)

pub hex-length : (xs : List ℕ) → length (hex xs) ≡ 2 * length xs
unfolding hex
hex-length [] = refl
hex-length (x ∷ xs) = omega (arith, hex-length xs)

-- what holds after i bytes
pub record Hexed (m : List ℕ) (at : ℕ) (bytes m' : List ℕ) (i k : ℕ) : Type 0 where
  pub within : i ≤ length bytes
  pub place : k ≡ at + 2 * i
  pub same : length m' ≡ length m
  pub put : Put m at (hex (take i bytes)) m' k

pub hexed-start : (m : List ℕ) (at : ℕ) (bytes : List ℕ) → at + 2 * length bytes ≤ length m → Hexed m at bytes m 0 at
unfolding hex
hexed-start m at bytes h = record { within = omega arith; place = omega arith; same = refl; put = put-none m at (omega arith) }

pub hexed-turn : (m : List ℕ) (at : ℕ) (bytes m' : List ℕ) (i k x y : ℕ) → at + 2 * length bytes ≤ length m → Hexed m at bytes m' i k → i < length bytes
    → x ≡ hex_digit (get_or bytes i 0 / 16) → y ≡ hex_digit (get_or bytes i 0 % 16) → Hexed m at bytes (set (set m' k x) (k + 1) y) (i + 1) (k + 2)
unfolding hex
hexed-turn m at bytes m' i k x y f h w ex ey =
    let a : k < length m' = omega (arith, h.place, h.same) in
    let p : Put m' k (x ∷ []) (set m' k x) (k + 1) = put_one m' k x a in
    let b : k + 1 < length (set m' k x) = omega (arith, h.place, h.same, put-length p) in
    let q : Put (set m' k x) (k + 1) (y ∷ []) (set (set m' k x) (k + 1) y) (k + 1 + 1) = put_one (set m' k x) (k + 1) y b in
    let e : hex (take i bytes) ++ (x ∷ y ∷ []) ≡ hex (take (i + 1) bytes) = sym (rw (add-one, take-suc bytes i 0 w, hex-append (take i bytes) (get_or bytes i 0 ∷ []), ← ex, ← ey)) in
    let s : k + 1 + 1 ≡ k + 2 = omega arith in
    record {
      within = omega arith;
      place = omega (arith, h.place);
      same = put-length q ∙ put-length p ∙ h.same;
      put = rw (← e, ← s) (put_then h.put (put_then p q));
    }

-- ---- bytes that are shown

empty : (xs : List ℕ) → length xs ≡ 0 → xs ≡ []
empty [] h = refl
empty (x ∷ xs) h = absurd (omega arith)

pub shown-none : (xs : List ℕ) → length xs ≡ 0 → 46 ∷ [] ≡ shown xs
unfolding shown
shown-none xs h = rw (empty xs h)

pub shown-some : (xs : List ℕ) → (length xs ≡ 0 → ⊥) → hex xs ≡ shown xs
unfolding shown
shown-some [] h = absurd (h refl)
shown-some (x ∷ xs) h = refl

pub shown-length : (xs : List ℕ) → length (shown xs) ≤ 2 * length xs + 1
unfolding shown
shown-length [] = omega arith
shown-length (x ∷ xs) = omega (arith, hex-length (x ∷ xs))
