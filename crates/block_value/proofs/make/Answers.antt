use mathlib.Core.Path.{sym}
use native.Mathlib.Omega.{arith}
use Rattle.block_value.proofs.Laws.{made-zero, made-large, made-far, made-well}
use Rattle.block_value.proofs.make.Goals as goal

pub returns-then-size-eq0 : goal.returns-then-size-eq0
returns-then-size-eq0 c = sym (made-zero _ _ _ _ c.if-size-eq0.true)

pub returns-then-exponent-gt11 : goal.returns-then-exponent-gt11
returns-then-exponent-gt11 c = sym (made-large _ _ _ _ c.if-size-eq0.false (omega arith))

pub returns-then-num_limit-num : goal.returns-then-num_limit-num
returns-then-num_limit-num c = sym (made-far _ _ _ _ c.if-size-eq0.false (omega arith) (rw c.num_limit.ensures.0 at c.if-num_limit-num.true))

pub returns : goal.returns
returns c =
    sym (made-well _ _ _ _ c.if-size-eq0.false _ (omega arith) (omega arith) (rw c.num_limit.ensures.0 at c.if-num_limit-num.false))
