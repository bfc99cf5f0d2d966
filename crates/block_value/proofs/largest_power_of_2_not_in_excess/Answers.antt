use mathlib.Core.Path.{◌≡◌, sym, ap, ◌∙◌}
use Prim.Native.Nat.{ℕ, ◌+◌, ◌*◌, ◌^◌, ◌≤◌}
use native.Mathlib.Nat.{pow-suc}
use native.Mathlib.Numerals.{add-one}
use native.Mathlib.Omega.{arith}
use Rattle.block_value.proofs.Laws.{largest-is, exponent-most}
use Rattle.block_value.proofs.largest_power_of_2_not_in_excess.Goals as goal

pub returns : goal.returns
returns c =
    let q : 2 ^ c.loop-power.exponent ≤ c.args.target = rw c.loop-power.invariant.0 at c.loop-power.invariant.1 in
    let d : 2 ^ (c.loop-power.exponent + 1) ≡ 2 ^ c.loop-power.exponent * 2 = ap (λ (n : ℕ). 2 ^ n) (add-one c.loop-power.exponent) ∙ pow-suc 2 c.loop-power.exponent in
    sym (largest-is 63 c.loop-power.exponent c.args.target (exponent-most c.loop-power.exponent c.args.target q c.ranges.target.fits) q (omega arith))
