use native.Mathlib.Omega.{arith}
use Rattle.script_cut.proofs.Splitting.{met_start, met-turn, met-mark, met-end}
use Rattle.script_cut.proofs.mark_from.Goals as goal

pub loop-i-init : goal.loop-i-init
loop-i-init c = met_start _ _ _ c.requires

pub returns-then-line-i : goal.returns-then-line-i
returns-then-line-i c = met-mark _ _ _ _ c.loop-i.invariant (omega arith) c.if-line-i.true

pub loop-i-preserved : goal.loop-i-preserved
loop-i-preserved c = met-turn _ _ _ _ c.loop-i.invariant (omega arith) c.if-line-i.false

pub returns : goal.returns
returns c = met-end _ _ _ _ c.loop-i.invariant (omega arith)
