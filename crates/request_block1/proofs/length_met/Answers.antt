use mathlib.Core.Path.{sym}
use native.Mathlib.Omega.{arith}
use Rattle.request_block1.proofs.Taking.{met-afresh, met_all}
use Rattle.request_block1.proofs.length_met.Goals as goal

pub returns-then-strict-block : goal.returns-then-strict-block
returns-then-strict-block c = (sym (met-afresh _ _ _ c.if-strict-block.true), omega arith)

pub returns : goal.returns
returns c = (sym (met_all _ _ _ c.if-strict-block.false), omega arith)
