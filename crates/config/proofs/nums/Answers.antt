use mathlib.Core.Path.{refl}
use native.Mathlib.Omega.{arith}
use Rattle.config.specs.Mode.{nums, byte_limit}
use Rattle.config.proofs.nums.Goals as goal

pub returns-then-strict : goal.returns-then-strict
unfolding nums byte_limit
returns-then-strict c = rw c.if-strict.true (refl, omega arith, omega arith)

pub returns : goal.returns
unfolding nums byte_limit
returns c = rw c.if-strict.false (refl, omega arith, omega arith)
