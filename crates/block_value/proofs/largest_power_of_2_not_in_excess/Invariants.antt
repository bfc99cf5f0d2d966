use mathlib.Core.Path.{◌≡◌}
use Prim.Native.Nat.{◌-◌, ◌^◌, ◌≤◌, ◌<◌}
use Rattle.block_value.proofs.largest_power_of_2_not_in_excess.Given as goal

abbrev pub invariant-loop-power : goal.invariant-loop-power
invariant-loop-power l = (l.power ≡ 2 ^ l.exponent) × (l.power ≤ l.target) × (l.exponent < l.power)

abbrev pub decreases-loop-power : goal.decreases-loop-power
decreases-loop-power l = l.target - l.power
