-- Strict mode's two checks in words, and the length that a block meets: but to compute with them, no other proof here looks into their definitions. Assumes nothing.
use Prim.Native.Nat.{ℕ, zero, suc, ◌*◌, ◌≤◌, ◌<◌}
use mathlib.Core.Bool.{Bool, true, false, not, ◌&&◌, ◌||◌, false≢true}
use mathlib.Core.Path.{◌≡◌, refl, sym, ◌∙◌}
use mathlib.Core.Logic.{inl, inr, ⊎_elim}
use native.Mathlib.Omega.{arith}
use lib.Dec.{leb, ltb, eqb}
use borrow.Author.Tests.{not-true, not-false, ltb-true, lt-ltb, leb-true, leb-false, le-leb, eqb-true, eqb-false, eq-eqb, ne_eqb}
use Rattle.pieces.proofs.Tests.{and_left, and_right, by_cases, clash-of, refute}
use Rattle.block_value.specs.Value.{block_size, block_start}
use Rattle.block_value.specs.declared.BlockValue.{BlockValue}
use Rattle.block_value.proofs.Laws.{size-least}
use Rattle.block_state.specs.declared.Assembled.{Assembled}
use Rattle.request_block1.specs.Block1.{bad_form, not_next, length_met}
use Rattle.request_block1.proofs.Taking.{met-afresh, met_all}
use Rattle.one_call.specs.Strict.{BadlyFormed, Misplaced}

pub and_none : (a b : Bool) → b ≡ false → (a && b) ≡ false
and_none true b e = e
and_none false b e = refl

or_left : (a b : Bool) → a ≡ true → (a || b) ≡ true
or_left true b e = refl
or_left false b e = absurd (clash-of false e refl)

or_right : (a b : Bool) → b ≡ true → (a || b) ≡ true
or_right true b e = refl
or_right false b e = e

-- ---- refusal 10

pub bad-is : (b : BlockValue) (p : ℕ) → BadlyFormed b p → bad_form b p ≡ true
unfolding bad_form
bad-is b p (inl e) = rw (eq-eqb b.size_exponent 7 e)
bad-is b p (inr (inl h)) = rw (lt-ltb (block_size b) p h) (or_left _ _ (or_right (eqb b.size_exponent 7) true refl))
bad-is b p (inr (inr h)) = rw (h.0, ne_eqb p (block_size b) h.1) (or_right (eqb b.size_exponent 7 || ltb (block_size b) p) true refl)

pub bad-as : (b : BlockValue) (p : ℕ) → bad_form b p ≡ true → BadlyFormed b p
unfolding bad_form
bad-as b p y =
    by_cases (eqb b.size_exponent 7) (λ e. inl (eqb-true b.size_exponent 7 e))
    (λ n7. by_cases (ltb (block_size b) p) (λ e. inr (inl (ltb-true (block_size b) p e)))
    (λ nl. let m : (b.more && not (eqb p (block_size b))) ≡ true = last n7 nl y in
    inr (inr (and_left _ _ m, λ e. clash-of (eqb p (block_size b)) (eq-eqb p (block_size b) e) (not-true (eqb p (block_size b)) (and_right b.more _ m))))))
  where
    last : eqb b.size_exponent 7 ≡ false → ltb (block_size b) p ≡ false → bad_form b p ≡ true → (b.more && not (eqb p (block_size b))) ≡ true
    last e f = rw (e, f) (λ z. z)

pub bad-not : (b : BlockValue) (p : ℕ) → (BadlyFormed b p → ⊥) → bad_form b p ≡ false
bad-not b p well = refute (bad_form b p) (λ y. well (bad-as b p y))

-- a block of exponent 6 at most, with a payload no longer than its size, and just as long if it is marked
pub well-formed : (b : BlockValue) (p : ℕ) → b.size_exponent ≤ 6 → p ≤ block_size b → (b.more ≡ true → p ≡ block_size b) → BadlyFormed b p → ⊥
well-formed b p six short full (inl seven) = omega arith
well-formed b p six short full (inr (inl long)) = omega arith
well-formed b p six short full (inr (inr bad)) = bad.1 (full bad.0)

pub not-bad : (b : BlockValue) (p : ℕ) → bad_form b p ≡ false → BadlyFormed b p → ⊥
not-bad b p good bad = clash-of (bad_form b p) (bad-is b p bad) good

-- ---- refusal 9

-- What a block that goes on must be, where `len` bytes were sent and the last of their blocks had exponent `kept`: it starts where they end, and is no larger.
abbrev pub NextAt : ℕ → ℕ → BlockValue → Type 0
NextAt len kept b = (block_start b ≡ len) × (b.size_exponent ≤ kept)

-- strict mode lets it pass, and no other block but block 0
pub next-passes : (a : Assembled) (b : BlockValue) → NextAt a.len a.exponent b → not_next a b ≡ false
unfolding not_next
next-passes a b n = rw (eq-eqb (block_start b) a.len n.0, le-leb b.size_exponent a.exponent n.1) (and_none (not (eqb b.num 0)) false refl)

pub passed-next : (a : Assembled) (b : BlockValue) → (b.num ≡ 0 → ⊥) → not_next a b ≡ false → NextAt a.len a.exponent b
unfolding not_next
passed-next a b other passed =
    let both = not-false (eqb (block_start b) a.len && leb b.size_exponent a.exponent) (rw (ne_eqb b.num 0 other) at passed) in
    (eqb-true (block_start b) a.len (and_left _ _ both), leb-true b.size_exponent a.exponent (and_right (eqb (block_start b) a.len) _ both))

pub first_passes : (a : Assembled) (b : BlockValue) → b.num ≡ 0 → not_next a b ≡ false
unfolding not_next
first_passes a b first = rw (eq-eqb b.num 0 first)

pub misplaced-is : (a : Assembled) (b : BlockValue) → Misplaced a b → not_next a b ≡ true
misplaced-is a b m =
    by_cases (not_next a b) (λ y. y)
    (λ n.
    let next = passed-next a b m.0 n in
    absurd (⊎_elim (λ (away : block_start b ≡ a.len → ⊥). away next.0) (λ (rises : a.exponent < b.size_exponent). omega arith) m.1))

pub misplaced-as : (a : Assembled) (b : BlockValue) → not_next a b ≡ true → Misplaced a b
misplaced-as a b y =
    let other : b.num ≡ 0 → ⊥ = λ first. clash-of (not_next a b) y (first_passes a b first) in (
      other,
      by_cases (leb b.size_exponent a.exponent)
          (λ no-larger. inl (λ start. clash-of (not_next a b) y (next-passes a b (start, leb-true b.size_exponent a.exponent no-larger))))
          (λ rises. inr (leb-false b.size_exponent a.exponent rises)),
    )

pub next-not-misplaced : (a : Assembled) (b : BlockValue) → NextAt a.len a.exponent b → Misplaced a b → ⊥
next-not-misplaced a b n m = clash-of (not_next a b) (misplaced-is a b m) (next-passes a b n)

-- ---- where a block starts

pub first-starts : (b : BlockValue) → b.num ≡ 0 → block_start b ≡ 0
first-starts b first = rw first (omega arith)

-- a block that starts at 0 is block 0
pub starts_first : (b : BlockValue) → block_start b ≡ 0 → b.num ≡ 0
starts_first b = of b.num (block_size b) (size-least b.size_exponent)
  where
    of : (n s : ℕ) → 16 ≤ s → n * s ≡ 0 → n ≡ 0
    of zero s h e = refl
    of (suc n) s h e = absurd (omega arith)

-- ---- the length that it meets

-- all that is assembled, unless strict mode starts afresh over something
pub meets-all : (strict : Bool) (a : Assembled) (b : BlockValue) → (strict ≡ true → b.num ≡ 0 → a.len ≡ 0) → length_met strict a b ≡ a.len
meets-all strict a b none =
    by_cases (strict && eqb b.num 0)
    (λ y. met-afresh strict a b y ∙ sym (none (and_left _ _ y) (eqb-true b.num 0 (and_right strict _ y)))) (met_all strict a b)

pub meets-afresh : (strict : Bool) (a : Assembled) (b : BlockValue) → b.num ≡ 0 → (strict ≡ false → a.len ≡ 0) → length_met strict a b ≡ 0
meets-afresh true a b first none = met-afresh true a b (eq-eqb b.num 0 first)
meets-afresh false a b first none = met_all false a b refl ∙ none refl

-- where strict mode lets a block pass, that is where it starts: block 0 starts afresh, and any other where the assembly ends
pub meets-start : (a : Assembled) (b : BlockValue) → not_next a b ≡ false → length_met true a b ≡ block_start b
meets-start a b passed =
    by_cases (eqb b.num 0)
    (λ y.
    let first : b.num ≡ 0 = eqb-true b.num 0 y in
    meets-afresh true a b first (λ plain. absurd (false≢true (sym plain))) ∙ sym (first-starts b first))
    (λ n.
    let other : b.num ≡ 0 → ⊥ = eqb-false b.num 0 n in
    meets-all true a b (λ _ first. absurd (other first)) ∙ sym (passed-next a b other passed).0)
