-- What a line says, by the tests of the code. Assumes nothing.
use mathlib.Core.Path.{◌≡◌, refl, sym, ap, ◌∙◌}
use mathlib.Core.Bool.{Bool, true, false, cond, not, true≢false}
use mathlib.Core.List.{List, [], ◌∷◌, map}
use Prim.Native.Nat.{ℕ, suc, ◌+◌, ◌-◌, ◌%◌, ◌≤◌, ◌<◌}
use native.Mathlib.Omega.{arith}
use lib.Dec.{eqb}
use lib.ListN.{length, get_or, take, drop, length-take, length-drop, length-map}
use lib.Seq.{drop-cons, length-take-le}
use borrow.Author.Tests.{lt-ltb, le-ltb, eq-eqb, ne_eqb}
use Rattle.pieces.specs.Memory.{patch, part}
use Rattle.pieces.proofs.Memory.{part-patch}
use Rattle.line_input.specs.Sizes.{longest}
use Rattle.script_fields.specs.Fields.{nibble, is_hex, is_pairs, pairs_of, pairs_decoded}
use Rattle.script_fields.proofs.Pairs.{pairs-length}
use Rattle.hex_line.specs.Line.{passing, start_of, end_of, trimmed, lower, is_skipped, bad_at, digits_say, most_digits, Hex, hex_of, bytes_of, Filled}
use Rattle.std.specs.Prelude.{Option, Some, None, Ok, Err, is_some}
use Rattle.hex_line.specs.declared.Why.TheVariants as why

-- ---- digits

module _ (x : ℕ) {h : Option ℕ} (e : h ≡ nibble x) (b : Bool) (is : is_some h ≡ not b) where
  pub no-hex : b ≡ true → is_hex x ≡ false
  unfolding is_hex
  no-hex f = ap is_some (sym e) ∙ is ∙ ap not f

  pub some-hex : b ≡ false → is_hex x ≡ true
  unfolding is_hex
  some-hex f = ap is_some (sym e) ∙ is ∙ ap not f

-- a byte in front that is a digit
digit-first : (x : ℕ) (xs : List ℕ) → length (x ∷ xs) ≤ bad_at (x ∷ xs) → (is_hex x ≡ true) × (length xs ≤ bad_at xs)
unfolding passing
digit-first x xs h = go (is_hex x) h
  where
    go : (b : Bool) → length (x ∷ xs) ≤ cond b (suc (bad_at xs)) 0 → (b ≡ true) × (length xs ≤ bad_at xs)
    go true q = (refl, omega arith)
    go false q = absurd (omega arith)

-- digits are in pairs where their number is not odd
pairs-even : (text : List ℕ) → length text ≤ bad_at text → is_pairs text ≡ not (eqb (length text % 2) 1)
unfolding is_pairs
pairs-even [] h = refl
pairs-even (x ∷ []) h = refl
pairs-even (x ∷ y ∷ rest) h =
    let p = digit-first x (y ∷ rest) h in
    let q = digit-first y rest p.1 in
    let e : suc (suc (length rest)) % 2 ≡ length rest % 2 = omega arith in
    rw (p.0, q.0, e) (pairs-even rest q.1)

module _ (start : ℕ) (text : List ℕ) where
  pub no_digit_lem : (bad : ℕ) → bad ≡ bad_at text → bad < length text → Err (why.NoDigit (start + bad + 1)) ≡ digits_say start text
  unfolding digits_say
  no_digit_lem bad e h = rw (← e, lt-ltb bad (length text) h)

  module _ (h : length text ≤ bad_at text) where
    pub odd_number_lem : pairs_decoded text ≡ None → Err why.Odd ≡ digits_say start text
    unfolding digits_say pairs_decoded
    odd_number_lem e = rw (le-ltb (bad_at text) (length text) h) (go (eqb (length text % 2) 1) (rw (pairs-even text h) at e))
      where
        go : (b : Bool) → cond (not b) (Some (length (pairs_of text))) None ≡ None → Err why.Odd ≡ cond b (Err why.Odd) (Ok (Some (length (pairs_of text))))
        go true q = refl
        go false q = absurd (let z : ◌≡◌ {A = ℕ} 0 1 = cc in omega arith)

    pub some_bytes : (n : ℕ) → pairs_decoded text ≡ Some n → Ok (Some n) ≡ digits_say start text
    unfolding digits_say pairs_decoded
    some_bytes n e = rw (le-ltb (bad_at text) (length text) h) (go (eqb (length text % 2) 1) (rw (pairs-even text h) at e))
      where
        go : (b : Bool) → cond (not b) (Some (length (pairs_of text))) None ≡ Some n → Ok (Some n) ≡ cond b (Err why.Odd) (Ok (Some (length (pairs_of text))))
        go true q = absurd (let z : ◌≡◌ {A = ℕ} 0 1 = cc in omega arith)
        go false q = cc

-- ---- a buffer is filled only by bytes

abbrev pub has_bytes : Hex → Bool
has_bytes (Ok None) = false
has_bytes (Ok (Some n)) = true
has_bytes (Err w) = false

pub not-filled : (r : Hex) (bytes out : List ℕ) → has_bytes r ≡ false → Filled r bytes out
not-filled r bytes out e n q = absurd (true≢false (sym (ap has_bytes q) ∙ e))

pub some-filled : (text out : List ℕ) (n : ℕ) → length text ≤ most_digits → (n ≤ length out) × (take n out ≡ pairs_of text)
    → Filled (Ok (Some n)) (pairs_of text) out
some-filled text out n h f k q =
    let e : n ≡ k = cc in
    let l : length (pairs_of text) ≡ n = ap length (sym f.1) ∙ length-take-le n out f.0 in
    rw (← e) (omega (arith, pairs-length text), f.0, f.1)

-- ---- a line

pub long-line : (line : List ℕ) → longest < length line → Err why.LongLine ≡ hex_of line
unfolding hex_of
long-line line h = rw (lt-ltb longest (length line) h)

abbrev between : List ℕ → ℕ → ℕ → List ℕ
between line s e = take (e - s) (drop s line)

-- a line that is not cut, with its text between two indices
pub record Ends (line : List ℕ) (s e : ℕ) : Type 0 where
  pub short : length line ≤ longest
  pub starts : start_of line ≡ s
  pub ends : end_of line ≡ e
  pub within : e ≤ length line

module _ (line : List ℕ) (s e : ℕ) (x : Ends line s e) where
  cut : trimmed line ≡ between line s e
  unfolding trimmed
  cut = rw (x.starts, x.ends)

  pub empty-line : e ≤ s → Ok None ≡ hex_of line
  unfolding hex_of is_skipped
  empty-line h =
      let z : e - s ≡ 0 = omega arith in
      rw (le-ltb longest (length line) x.short, cut, z)

  pub line-bytes : pairs_of (map lower (between line s e)) ≡ bytes_of line
  unfolding bytes_of
  line-bytes = rw cut

  module _ (some : s < e) where
    text-length : length (between line s e) ≡ e - s
    text-length = simp (length-take, length-drop) (omega (arith, x.within))

    -- the first byte decides whether a text is skipped
    first : is_skipped (between line s e) ≡ eqb (get_or line s 0) 35
    unfolding is_skipped
    first =
        let n : e - s ≡ suc (e - s - 1) = omega arith in
        rw (n, drop-cons line s 0 (omega (arith, x.within)))

    pub comment-line : get_or line s 0 ≡ 35 → Ok None ≡ hex_of line
    unfolding hex_of
    comment-line c = rw (le-ltb longest (length line) x.short, cut, first, eq-eqb (get_or line s 0) 35 c)

    module _ (text : get_or line s 0 ≡ 35 → ⊥) where
      pub too_many : most_digits < e - s → Err why.TooLong ≡ hex_of line
      unfolding hex_of
      too_many h =
          rw (le-ltb longest (length line) x.short, cut, first, ne_eqb (get_or line s 0) 35 text, text-length, lt-ltb most_digits (e - s) h)

      pub digits-line : e - s ≤ most_digits → digits_say s (map lower (between line s e)) ≡ hex_of line
      unfolding hex_of
      digits-line h =
          rw (le-ltb longest (length line) x.short, cut, first, ne_eqb (get_or line s 0) 35 text, text-length, le-ltb most_digits (e - s) h, x.starts)

    -- the text that is lent
    pub text-lent : (m m' : List ℕ) → m' ≡ patch m 0 (map lower (between line s e)) → take (e - s) m' ≡ map lower (between line s e)
    unfolding part
    text-lent m m' is =
        let n : e - s ≡ length (map lower (between line s e)) = omega (arith, length-map (between line s e) lower, text-length) in
        let lent : take (length (map lower (between line s e))) m' ≡ map lower (between line s e) = rw is (part-patch m 0 (map lower (between line s e)) (omega arith)) in
        ap (λ (k : ℕ). take k m') n ∙ lent
