-- WHERE A BLOCK STARTS IS WITHIN 32 BITS. Assumes nothing.
use Rattle.std.specs.Prelude.{Option, Some, None}
use Prim.Native.Nat.{ℕ, ◌*◌, ◌≤◌}
use mathlib.Core.Bool.{Bool}
use mathlib.Core.Path.{◌≡◌}
use native.Mathlib.Nat.{mul-le-mul}
use native.Mathlib.Omega.{arith}
use lib.Dec.{ltb, eqb}
use borrow.Author.Tests.{ltb-false}
use Rattle.pieces.proofs.Tests.{by_cases}
use Rattle.config.specs.Mode.{num_limit}
use Rattle.config.proofs.Mode.{limit-most, nums-most}
use Rattle.block_value.specs.Value.{exponent_of, made, block_start}
use Rattle.block_value.specs.declared.BlockValue.{BlockValue}
use Rattle.block_value.proofs.Laws.{size-most}
use Rattle.block_option.proofs.Laws.{read-num}
use Rattle.block_state.specs.State.{recorded_block}
use Rattle.block_state.proofs.Fits.{Held, recorded-held}
use Rattle.one_call.specs.Starts.{StartsLow, Starts}

-- a num of 20 bits is all that is asked
low : (b : BlockValue) → b.num ≤ 1048575 → StartsLow b
low b h =
    let most : block_start b ≤ 1048575 * 2048 = mul-le-mul h (size-most b.size_exponent) in
    (most, omega (arith, size-most b.size_exponent))

-- what is made has a num within its mode's limit
made-num : (strict : Bool) (num : ℕ) (more : Bool) (size : ℕ) (b : BlockValue) → made strict num more size ≡ Some b → b.num ≤ num_limit strict
unfolding made
made-num strict num more size b e =
    by_cases (eqb size 0) (λ z. no (rw z at e))
    (λ z. by_cases (ltb 7 (exponent_of size)) (λ x. no (rw (z, x) at e))
    (λ x. by_cases (ltb (num_limit strict) num) (λ n. no (rw (z, x, n) at e))
    (λ n.
    let is : Some (record { num = num; more = more; size_exponent = exponent_of size }) ≡ Some b = rw (z, x, n) at e in
    let same : b.num ≡ num = cc in
    rw same (ltb-false (num_limit strict) num n))))
  where
    no : None ≡ Some b → b.num ≤ num_limit strict
    no r = let z : ◌≡◌ {A = ℕ} 0 1 = cc in absurd (omega arith)

held_low : (m : Option BlockValue) (b : BlockValue) → Held 1048575 m → m ≡ Some b → StartsLow b
held_low m b h e = let k : Held 1048575 (Some b) = rw e at h in low b k.0

pub starts : Starts
starts =
    record {
      read = λ strict option b h e. low b (omega (arith, read-num strict option b h e, nums-most strict));
      made = λ strict num more size b e. low b (omega (arith, made-num strict num more size b e, limit-most strict));
      recorded = λ r b ok e. held_low (recorded_block r) b (recorded-held r ok) e;
    }
