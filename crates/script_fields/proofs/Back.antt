-- What is written reads back the same: decimals, and bytes in hex. Assumes nothing.
use mathlib.Core.Path.{◌≡◌, refl, ap, ◌∙◌}
use mathlib.Core.Bool.{Bool, true, false, cond}
use mathlib.Core.List.{List, [], ◌∷◌, ◌++◌}
use Prim.Native.Nat.{ℕ, zero, suc, ◌+◌, ◌-◌, ◌*◌, ◌/◌, ◌%◌, ◌^◌, ◌≤◌, ◌<◌}
use native.Mathlib.Nat.{pow-suc}
use native.Mathlib.Omega.{arith}
use lib.Dec.{ltb}
use lib.ListN.{length, length-append}
use borrow.Author.Tests.{lt-ltb, ltb-true, ltb-false, le-leb, lt-leb, ne_eqb}
use Rattle.std.specs.Prelude.{Some}
use Rattle.script_fields.specs.Fields.{is_digit, all_digits, value_from, value, is_number, nibble, digit_value, is_hex, is_pairs, pairs_of, is_mark, is_bytes, bytes_of}
use Rattle.script_text.specs.Text.{decimal_from, decimal, hex_digit, hex, shown}
use Rattle.pieces.proofs.Tests.{both}
use Rattle.script_text.proofs.Laws.{hex-length}

-- ---- decimals

value-last : (s : ℕ) (xs : List ℕ) (x : ℕ) → value_from s (xs ++ (x ∷ [])) ≡ value_from s xs * 10 + (x - 48)
unfolding value_from
value-last s [] x = refl
value-last s (y ∷ xs) x = value-last (s * 10 + (y - 48)) xs x

digits_last : (xs : List ℕ) (x : ℕ) → all_digits xs ≡ true → is_digit x ≡ true → all_digits (xs ++ (x ∷ [])) ≡ true
unfolding all_digits
digits_last [] x h e = rw e
digits_last (y ∷ xs) x h e = let w = both (is_digit y) (all_digits xs) h in rw (w.0, digits_last xs x w.1 e)

a-digit : (d : ℕ) → d < 10 → is_digit (48 + d) ≡ true
unfolding is_digit
a-digit d h = rw (le-leb 48 (48 + d) (omega arith), le-leb (48 + d) 57 (omega arith))

pub record Says (text : List ℕ) (n : ℕ) : Type 0 where
  pub some : 0 < length text
  pub digits : all_digits text ≡ true
  pub is : value_from 0 text ≡ n

one-says : (n : ℕ) → n < 10 → Says ((48 + n) ∷ []) n
unfolding all_digits value_from
one-says n h = record { some = omega arith; digits = rw (a-digit n h); is = omega arith }

more-says : (text : List ℕ) (n : ℕ) → Says text (n / 10) → Says (text ++ ((48 + n % 10) ∷ [])) n
more-says text n s =
    record {
      some = rw (length-append text ((48 + n % 10) ∷ [])) (omega arith);
      digits = digits_last text (48 + n % 10) s.digits (a-digit (n % 10) (omega arith));
      is = value-last 0 text (48 + n % 10) ∙ omega (arith, s.is);
    }

says-from : (k n : ℕ) → n < 10 ^ suc k → Says (decimal_from (suc k) n) n
unfolding decimal_from
says-from zero n h = let l : n < 10 = h in rw (lt-ltb n 10 l) (one-says n l)
says-from (suc k) n h = go (ltb n 10) refl (says-from k (n / 10) (omega (arith, pow-suc 10 (suc k), h)))
  where
    go : (b : Bool) → ltb n 10 ≡ b → Says (decimal_from (suc k) (n / 10)) (n / 10) → Says (cond b ((48 + n) ∷ []) (decimal_from (suc k) (n / 10) ++ ((48 + n % 10) ∷ []))) n
    go true e s = one-says n (ltb-true n 10 e)
    go false e s = more-says (decimal_from (suc k) (n / 10)) n s

pub decimal-back : (n : ℕ) → n < 2 ^ 64 → (is_number (decimal n) ≡ true) × (value (decimal n) ≡ n)
unfolding decimal is_number value
decimal-back n h =
    let s : Says (decimal_from 20 n) n = says-from 19 n (omega arith) in
    (rw (lt-ltb 0 (length (decimal_from 20 n)) s.some, s.digits, s.is, lt-ltb n (2 ^ 64) h), s.is)

-- ---- hex

-- Every number is a byte.
abbrev pub AllBytes : List ℕ → Type 0
AllBytes [] = Unit {0}
AllBytes (b ∷ bs) = (b < 256) × AllBytes bs

low-nibble : (d : ℕ) → d < 10 → nibble (48 + d) ≡ Some d
unfolding nibble
low-nibble d h = rw (le-leb 48 (48 + d) (omega arith), le-leb (48 + d) 57 (omega arith)) (ap Some (omega arith))

high-nibble : (d : ℕ) → 10 ≤ d → d < 16 → nibble (87 + d) ≡ Some d
unfolding nibble
high-nibble d h k = rw (le-leb 48 (87 + d) (omega arith), lt-leb (87 + d) 57 (omega arith), le-leb 97 (87 + d) (omega arith), le-leb (87 + d) 102 (omega arith)) (ap Some (omega arith))

nibble-back : (d : ℕ) → d < 16 → nibble (hex_digit d) ≡ Some d
unfolding hex_digit
nibble-back d h = go (ltb d 10) refl
  where
    go : (b : Bool) → ltb d 10 ≡ b → nibble (cond b (48 + d) (87 + d)) ≡ Some d
    go true e = low-nibble d (ltb-true d 10 e)
    go false e = high-nibble d (ltb-false d 10 e) h

hex-digit-is : (d : ℕ) → d < 16 → is_hex (hex_digit d) ≡ true
unfolding is_hex
hex-digit-is d h = rw (nibble-back d h)

pub hex-back : (bs : List ℕ) → AllBytes bs → (is_pairs (hex bs) ≡ true) × (pairs_of (hex bs) ≡ bs)
unfolding hex is_pairs pairs_of digit_value
hex-back [] h = (refl, refl)
hex-back (b ∷ bs) h =
    let w = hex-back bs h.1 in
    let hi : b / 16 < 16 = omega (arith, h.0) in
    let lo : b % 16 < 16 = omega arith in
    let e : b / 16 * 16 + b % 16 ≡ b = omega arith in
    (rw (hex-digit-is (b / 16) hi, hex-digit-is (b % 16) lo, w.0), rw (nibble-back (b / 16) hi, nibble-back (b % 16) lo, w.1, e))

long-mark : (text : List ℕ) (m : ℕ) → 1 < length text → is_mark text m ≡ false
unfolding is_mark
long-mark text m h = rw (ne_eqb (length text) 1 (λ e. omega (arith, e)))

-- Bytes that are shown, the empty ones too.
pub shown-back : (bs : List ℕ) → AllBytes bs → (is_bytes (shown bs) ≡ true) × (bytes_of (shown bs) ≡ bs)
unfolding shown is_bytes bytes_of is_mark
shown-back [] h = (refl, refl)
shown-back (b ∷ bs) h =
    let t : List ℕ = hex (b ∷ bs) in
    let w = hex-back (b ∷ bs) h in
    let l : 1 < length t = omega (arith, hex-length (b ∷ bs)) in
    let m : is_mark t 46 ≡ false = long-mark t 46 l in
    (rw (m, lt-ltb 0 (length t) (omega arith), w.0), rw (m, w.1))
