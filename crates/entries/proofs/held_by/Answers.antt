use Rattle.entries.specs.Held.{held_by}
use native.Mathlib.Omega.{arith}
use Rattle.entries.proofs.held_by.Goals as goal

pub returns-then-e : goal.returns-then-e
unfolding held_by
returns-then-e c = (rw (c.if-e.true, c.held_of.ensures.0), c.held_of.ensures.1)

pub returns : goal.returns
unfolding held_by
returns c = (rw c.if-e.false, omega arith)
