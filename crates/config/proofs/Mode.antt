-- The laws of the mode's numbers. Assumes nothing.
use Prim.Native.Nat.{suc, ◌*◌, ◌^◌, ◌≤◌}
use mathlib.Core.Bool.{Bool, true, false}
use mathlib.Core.Path.{◌≡◌, refl}
use native.Mathlib.Omega.{arith}
use Rattle.config.specs.Mode.{byte_limit, num_limit, nums}

pub bytes_most : (strict : Bool) → byte_limit strict ≤ 3
unfolding byte_limit
bytes_most true = omega arith
bytes_most false = omega arith

pub bytes-least : (strict : Bool) → 2 ≤ byte_limit strict
unfolding byte_limit
bytes-least true = omega arith
bytes-least false = omega arith

pub limit-least : (strict : Bool) → 65535 ≤ num_limit strict
unfolding num_limit
limit-least true = omega arith
limit-least false = omega arith

pub limit-most : (strict : Bool) → num_limit strict ≤ 1048575
unfolding num_limit
limit-most true = omega arith
limit-most false = omega arith

pub nums-most : (strict : Bool) → nums strict ≤ 1048576
unfolding nums byte_limit
nums-most true = omega arith
nums-most false = omega arith

pub nums-least : (strict : Bool) → 4096 ≤ nums strict
unfolding nums byte_limit
nums-least true = omega arith
nums-least false = omega arith

-- a num that an option can hold can be made
pub nums-made : (strict : Bool) → nums strict ≤ suc (num_limit strict)
unfolding nums byte_limit num_limit
nums-made true = omega arith
nums-made false = omega arith

-- with its four other bits, a num takes up the option's bytes
pub nums-bytes : (strict : Bool) → nums strict * 16 ≡ 256 ^ byte_limit strict
unfolding nums byte_limit
nums-bytes true = refl
nums-bytes false = refl
