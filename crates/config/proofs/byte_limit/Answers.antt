use mathlib.Core.Path.{refl}
use native.Mathlib.Omega.{arith}
use Rattle.config.specs.Mode.{byte_limit}
use Rattle.config.proofs.byte_limit.Goals as goal

pub returns-then-strict : goal.returns-then-strict
unfolding byte_limit
returns-then-strict c = rw c.if-strict.true (refl, omega arith)

pub returns : goal.returns
unfolding byte_limit
returns c = rw c.if-strict.false (refl, omega arith)
