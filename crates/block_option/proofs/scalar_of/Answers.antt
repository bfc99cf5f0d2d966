use native.Mathlib.Omega.{arith}
use Rattle.block_option.proofs.Laws.{upto-start, upto_next, upto-small}
use Rattle.block_option.proofs.scalar_of.Goals as goal

pub loop-byte-init : goal.loop-byte-init
loop-byte-init c = upto-start _

pub overflow_mul-scalar : goal.overflow_mul-scalar
overflow_mul-scalar c = let small = upto-small _ _ _ c.loop-byte.invariant c.loop-byte-test.true c.requires in omega arith

pub loop-byte-preserved : goal.loop-byte-preserved
loop-byte-preserved c = upto_next _ _ _ c.loop-byte.invariant _ c.loop-byte-test.true c.from.ensures (omega (arith, c.from.ensures, c.type_inv.option c.loop-byte.byte-index))
