-- The laws of a request's Block1 value, a law for each branch: what the code's answers come to, and what a block that is taken leaves. Assumes nothing.
use Rattle.std.specs.Prelude.{Result, Ok, Err}
use Prim.Native.Nat.{ℕ, ◌+◌, ◌-◌, ◌≤◌}
use mathlib.Core.Path.{◌≡◌, refl, ap, ◌∙◌}
use mathlib.Core.Bool.{Bool, true, false, cond, not, ◌&&◌}
use mathlib.Core.List.{List}
use native.Mathlib.Omega.{arith}
use lib.ListN.{length, take}
use lib.Seq.{length-take-le}
use lib.Dec.{leb, eqb}
use borrow.Author.Tests.{eqb-true, not-false}
use Rattle.refusal.specs.declared.Refusal.{Refusal}
use Rattle.refusal.specs.declared.Refusal.TheVariants.{NotNext, BadForm}
use Rattle.pieces.proofs.Memory.{length-patch}
use Rattle.pieces.proofs.Tests.{on_test, and_left}
use Rattle.splicing.specs.Splice.{spliced_length, splice_of, piece_after, left_by}
use Rattle.splicing.specs.Splice as pieces
use Rattle.splicing.proofs.Splicing.{length-spliced, taken_is}
use Rattle.config.specs.declared.Config.{Config}
use Rattle.block_value.specs.Value.{block_size, block_start}
use Rattle.block_value.specs.declared.BlockValue.{BlockValue}
use Rattle.block_value.proofs.Laws.{size-most}
use Rattle.block_state.specs.declared.Assembled.{Assembled}
use Rattle.request_block1.specs.declared.Taken.{Taken}
use Rattle.request_block1.specs.Block1.{bad_form, not_next, length_met, taken_as, taken, piece_taken, AtMost}

-- ---- whether the block is taken

module _ (c : Config) (a : Assembled) (b : BlockValue) (p : ℕ) where
  pub taken-bad : (c.strict && bad_form b p) ≡ true → taken c a b p ≡ Err BadForm
  unfolding taken
  taken-bad h = rw h

  module _ (good : (c.strict && bad_form b p) ≡ false) where
    pub taken-not-next : (c.strict && not_next a b) ≡ true → taken c a b p ≡ Err NotNext
    unfolding taken
    taken-not-next h = rw (good, h)

    pub taken_next : (c.strict && not_next a b) ≡ false
        → taken c a b p ≡ taken_as b.more (splice_of c.upload (length_met c.strict a b) (block_start b) (block_size b) p)
    unfolding taken
    taken_next h = rw (good, h)

-- ---- what that leaves

-- the piece, by what the splice answered
pub piece-as : (c : Config) (a : Assembled) (u : List ℕ) (b : BlockValue) (payload : List ℕ) (more : Bool) (x : Result ℕ Refusal)
    → piece_taken c a u b payload (taken_as more x) ≡ left_by x u (length_met c.strict a b) (block_start b) (block_size b) payload
piece-as c a u b payload more (Err n) = refl
piece-as c a u b payload true (Ok n) = refl
piece-as c a u b payload false (Ok n) = refl

-- a splice that fits leaves the piece as long as it was
pub length-after : (u : List ℕ) (l a s : ℕ) (p : List ℕ) → l ≤ length u → spliced_length l a s (length p) ≤ length u
    → length (piece_after u l a s p) ≡ length u
unfolding piece_after
length-after u l a s p h k =
    let e : length (pieces.spliced (take l u) a s p) ≡ spliced_length l a s (length p) =
    length-spliced (take l u) a s p ∙ ap (λ (n : ℕ). spliced_length n a s (length p)) (length-take-le l u h) in
    length-patch u 0 (pieces.spliced (take l u) a s p) (omega arith)

module _ (c : Config) (a : Assembled) (u : List ℕ) (b : BlockValue) (payload : List ℕ) (fits : a.len ≤ c.upload) (size : length u ≡ c.upload) where
  met-most : length_met c.strict a b ≤ c.upload
  unfolding length_met
  met-most = on_test (λ n. n ≤ c.upload) (c.strict && eqb b.num 0) (λ _. omega arith) (λ _. fits)

  -- what is assembled fits the piece, which stays as long as it was
  abbrev pub Holds : Result Taken Refusal → Type 0
  Holds t = AtMost c.upload t × (length (piece_taken c a u b payload t) ≡ c.upload)

  pub taken-holds : Holds (taken c a b (length payload))
  unfolding taken
  taken-holds =
      on_test Holds (c.strict && bad_form b (length payload)) (λ _. (tt, size))
      (λ _. on_test Holds (c.strict && not_next a b) (λ _. (tt, size)) (λ _. spliced (splice_of c.upload l (block_start b) (block_size b) (length payload)) refl b.more))
    where
      l : ℕ
      l = length_met c.strict a b

      spliced : (x : Result ℕ Refusal) → splice_of c.upload l (block_start b) (block_size b) (length payload) ≡ x → (more : Bool) → Holds (taken_as more x)
      spliced (Err n) e more = (tt, size)
      spliced (Ok n) e more =
          let is = taken_is _ _ _ _ _ _ e in
          let long : length (piece_after u l (block_start b) (block_size b) payload) ≡ c.upload =
          length-after u l (block_start b) (block_size b) payload (omega (arith, met-most)) (omega arith) ∙ size in
          elim more as (λ m. Holds (taken_as m (Ok n))) [
            | true ↦ (is.1, long)
            | false ↦ (is.1, long)
          ]

-- what is assembled is at most any bound of the piece
pub taken-at-most : (c : Config) (a : Assembled) (b : BlockValue) (p most : ℕ) → c.upload ≤ most → AtMost most (taken c a b p)
unfolding taken
taken-at-most c a b p most h =
    on_test (AtMost most) (c.strict && bad_form b p) (λ _. tt)
    (λ _. on_test (AtMost most) (c.strict && not_next a b) (λ _. tt) (λ _. spliced _ refl b.more))
  where
    spliced : (x : Result ℕ Refusal) → splice_of c.upload (length_met c.strict a b) (block_start b) (block_size b) p ≡ x → (more : Bool) → AtMost most (taken_as more x)
    spliced (Err n) e more = tt
    spliced (Ok n) e true = omega (arith, (taken_is _ _ _ _ _ _ e).1)
    spliced (Ok n) e false = omega (arith, (taken_is _ _ _ _ _ _ e).1)

-- ---- the length that a block meets, by the test

pub met-afresh : (strict : Bool) (a : Assembled) (b : BlockValue) → (strict && eqb b.num 0) ≡ true → length_met strict a b ≡ 0
unfolding length_met
met-afresh strict a b first = rw first

pub met_all : (strict : Bool) (a : Assembled) (b : BlockValue) → (strict && eqb b.num 0) ≡ false → length_met strict a b ≡ a.len
unfolding length_met
met_all strict a b other = rw other

-- ---- refusal 6 is plain mode's alone: strict mode's next block ends at most 2,048 past what is assembled

pub strict-is-near : (a : Assembled) (b : BlockValue) → not_next a b ≡ false → block_start b + block_size b - length_met true a b ≤ 16384
unfolding not_next length_met
strict-is-near a b next = go (eqb b.num 0) refl next
  where
    go : (z : Bool) → eqb b.num 0 ≡ z → (not z && not (eqb (block_start b) a.len && leb b.size_exponent a.exponent)) ≡ false
        → block_start b + block_size b - cond (true && z) 0 a.len ≤ 16384
    go true e n =
        let start : block_start b ≡ 0 = rw (eqb-true b.num 0 e) (omega arith) in
        omega (arith, size-most b.size_exponent)
    go false e n =
        let both = not-false _ n in
        omega (arith, size-most b.size_exponent, eqb-true (block_start b) a.len (and_left _ _ both))
