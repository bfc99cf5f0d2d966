use mathlib.Core.Path.{refl}
use native.Mathlib.Omega.{arith}
use Rattle.config.specs.Mode.{num_limit}
use Rattle.config.proofs.num_limit.Goals as goal

pub returns-then-strict : goal.returns-then-strict
unfolding num_limit
returns-then-strict c = rw c.if-strict.true (refl, omega arith)

pub returns : goal.returns
unfolding num_limit
returns c = rw c.if-strict.false (refl, omega arith)
