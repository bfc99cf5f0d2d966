-- Bytes in hex: a turn of the loop that reads them, and what the answers tell. Assumes nothing.
use mathlib.Core.Path.{◌≡◌, refl, sym, ap, ◌∙◌}
use mathlib.Core.Bool.{true, false, and-false}
use mathlib.Core.List.{List, [], ◌∷◌, ◌++◌, append_assoc, append-nil}
use Prim.Native.Nat.{ℕ, suc, ◌+◌, ◌*◌, ◌%◌, ◌≤◌, ◌<◌}
use native.Mathlib.Numerals.{add-one}
use native.Mathlib.Omega.{arith}
use lib.ListN.{length, get_or, set, take, drop, length-append, length-set, drop_of_length-le}
use lib.Seq.{drop-cons, take-suc-set, take-append-le, take-append-add, length-take-le}
use borrow.Author.Tests.{lt-ltb, le-ltb}
use Rattle.std.specs.Prelude.{Some, None}
use Rattle.std.proofs.lemmas.Option.{cond_some}
use Rattle.script_fields.proofs.Numbers.{cond_none}
use Rattle.script_fields.specs.Fields.{nibble, digit_value, is_hex, is_pairs, pairs_of, is_mark, is_bytes, bytes_of, is_option, option_bytes, pairs_decoded, Filled, Decodes, Reads}

-- two bytes at the front of what is left
two : (text : List ℕ) (i : ℕ) → i + 1 < length text → drop i text ≡ get_or text i 0 ∷ get_or text (i + 1) 0 ∷ drop (i + 2) text
two text i h =
    let e : suc (i + 1) ≡ i + 2 = omega arith in
    drop-cons text i 0 (omega arith)
    ∙ ap (λ (l : List ℕ). get_or text i 0 ∷ l) (ap (λ (n : ℕ). drop n text) (sym (add-one i)) ∙ drop-cons text (i + 1) 0 h ∙ ap (λ (n : ℕ). get_or text (i + 1) 0 ∷ drop n text) e)

pub bad-pairs : (text : List ℕ) → is_pairs text ≡ false → pairs_decoded text ≡ None
unfolding pairs_decoded
bad-pairs text e = rw e

-- pairs are even in number
odd-pairs : (text : List ℕ) → length text % 2 ≡ 1 → is_pairs text ≡ false
unfolding is_pairs
odd-pairs [] h = absurd (omega arith)
odd-pairs (x ∷ []) h = refl
odd-pairs (x ∷ y ∷ rest) h = simp (odd-pairs rest (omega arith), and-false)

pub odd : (text : List ℕ) → length text % 2 ≡ 1 → pairs_decoded text ≡ None
odd text h = bad-pairs text (odd-pairs text h)

-- what holds after k pairs
pub record Paired (text out₀ out : List ℕ) (k : ℕ) : Type 0 where
  pub same : length out ≡ length out₀
  pub tests : is_pairs text ≡ is_pairs (drop (2 * k) text)
  pub bytes : pairs_of text ≡ take k out ++ pairs_of (drop (2 * k) text)

pub paired-start : (text out : List ℕ) → Paired text out out 0
paired-start text out = record { same = refl; tests = refl; bytes = refl }

module _ (text out₀ out : List ℕ) (k : ℕ) (p : Paired text out₀ out k) (h : 2 * k + 1 < length text) where
  pub bad-high : nibble (get_or text (2 * k) 0) ≡ None → pairs_decoded text ≡ None
  unfolding is_pairs is_hex
  bad-high e = bad-pairs text (p.tests ∙ rw (two text (2 * k) h, e))

  pub bad-low : nibble (get_or text (2 * k + 1) 0) ≡ None → pairs_decoded text ≡ None
  unfolding is_pairs is_hex
  bad-low e = bad-pairs text (p.tests ∙ rw (two text (2 * k) h, e, and-false (is_hex (get_or text (2 * k) 0))))

  pub paired-turn : (x y v : ℕ) → nibble (get_or text (2 * k) 0) ≡ Some x → nibble (get_or text (2 * k + 1) 0) ≡ Some y → v ≡ x * 16 + y → k < length out
      → Paired text out₀ (set out k v) (k + 1)
  unfolding is_pairs is_hex pairs_of digit_value
  paired-turn x y v ex ey ev w =
      let n : 2 * (k + 1) ≡ 2 * k + 2 = omega arith in
      record {
        same = length-set out k v ∙ p.same;
        tests = p.tests ∙ rw (two text (2 * k) h, ex, ey, n);
        bytes = p.bytes ∙ rw (two text (2 * k) h, ex, ey, n, ← ev, add-one k, take-suc-set out k v w) (sym (append_assoc (take k out) (v ∷ []) (pairs_of (drop (2 * k + 2) text))));
      }

pub paired-done : (text out₀ out : List ℕ) (k n : ℕ) → Paired text out₀ out k → n ≡ k → 2 * n ≡ length text → length text ≤ 2 * length out₀
    → (pairs_decoded text ≡ Some n) × Filled (Some n) (pairs_of text) out
unfolding is_pairs pairs_of pairs_decoded
paired-done text out₀ out k n p q h r =
    let e : drop (2 * k) text ≡ [] = drop_of_length-le text {i = 2 * k} (omega arith) in
    let w : n ≤ length out = omega (arith, p.same) in
    let b : pairs_of text ≡ take n out = p.bytes ∙ rw (e, ← q, append-nil (take n out)) in
    let m : length (pairs_of text) ≡ n = rw b (length-take-le n out w) in
    let t : is_pairs text ≡ true = p.tests ∙ rw e in
    (rw (t, m), λ j e. let q : n ≡ j = cc in rw (← q) (w, sym b))

-- ---- what an answer tells

pairs-good : (text : List ℕ) (n : ℕ) → Some n ≡ pairs_decoded text → is_pairs text ≡ true
unfolding pairs_decoded
pairs-good text n e = (cond_some (is_pairs text) (length (pairs_of text)) n (sym e)).0

pairs-bad : (text : List ℕ) → None ≡ pairs_decoded text → is_pairs text ≡ false
unfolding pairs_decoded
pairs-bad text e = cond_none (is_pairs text) (length (pairs_of text)) e

-- ---- a field of bytes, in a buffer from an index on

-- two digits a byte
pub pairs-length : (text : List ℕ) → 2 * length (pairs_of text) ≤ length text
unfolding pairs_of
pairs-length [] = omega arith
pairs-length (x ∷ []) = omega arith
pairs-length (x ∷ y ∷ rest) = omega (arith, pairs-length rest)

-- nothing is decoded, and nothing written
pub decodes-none : (text m : List ℕ) (at : ℕ) → 2 * at + length text ≤ 2 * length m → Decodes text m at [] m at
decodes-none text m at h =
    record { from = omega arith; to = omega arith; within = omega arith; half = omega arith; is = sym (append-nil (take at m)) }

-- the part behind an index is lent, and filled from its start
decodes-lent : (text m p rest : List ℕ) (at n : ℕ) → 2 * at + length text ≤ 2 * length m → n ≤ length p → take n p ≡ pairs_of text
    → Decodes text m at (pairs_of text) (take at m ++ (p ++ rest)) (at + n)
decodes-lent text m p rest at n h f q =
    let b : at ≤ length m = omega arith in
    let l : length (take at m) ≡ at = length-take-le at m b in
    let k : n ≡ length (pairs_of text) = rw (← q) (sym (length-take-le n p f)) in
    record {
      from = b;
      to = omega arith;
      within = simp length-append (omega arith);
      half = omega (arith, pairs-length text);
      is = ap (λ (j : ℕ). take (j + n) (take at m ++ (p ++ rest))) (sym l) ∙ take-append-add (take at m) (p ++ rest) n
          ∙ ap (λ (b : List ℕ). take at m ++ b) (take-append-le n p rest f ∙ q);
    }

module _ (text : List ℕ) where
  pub no_bytes : is_mark text 46 ≡ false → length text ≡ 0 → is_bytes text ≡ false
  unfolding is_bytes
  no_bytes e h = rw (e, le-ltb 0 (length text) (omega arith))

  module _ (e : is_mark text 46 ≡ false) (some : length text ≡ 0 → ⊥) where
    pairs-field : is_pairs text ≡ is_bytes text
    unfolding is_bytes
    pairs-field = rw (e, lt-ltb 0 (length text) (omega arith))

    pub no_pairs : None ≡ pairs_decoded text → is_bytes text ≡ false
    no_pairs d = sym pairs-field ∙ pairs-bad text d

    pub pairs-bytes : (m p rest : List ℕ) (at n : ℕ) → 2 * at + length text ≤ 2 * length m → Some n ≡ pairs_decoded text
        → (n ≤ length p) × (take n p ≡ pairs_of text) → Reads (Some (at + n)) (is_bytes text) text m at (bytes_of text) (take at m ++ (p ++ rest))
    unfolding bytes_of
    pairs-bytes m p rest at n room d f = rw e (sym pairs-field ∙ pairs-good text n d, decodes-lent text m p rest at n room f.0 f.1)

  pub no-dash : is_mark text 45 ≡ false → (is_option text ≡ is_bytes text) × (option_bytes text ≡ bytes_of text)
  unfolding is_option option_bytes
  no-dash e = (rw e, rw e)

  module _ (m : List ℕ) (at : ℕ) (room : 2 * at + length text ≤ 2 * length m) where
    pub dot-bytes : is_mark text 46 ≡ true → Reads (Some at) (is_bytes text) text m at (bytes_of text) m
    unfolding is_bytes bytes_of
    dot-bytes e = rw e (refl, decodes-none text m at room)

    pub dash-option : is_mark text 45 ≡ true → Reads (Some at) (is_option text) text m at (option_bytes text) m
    unfolding is_option option_bytes
    dash-option e = rw e (refl, decodes-none text m at room)
