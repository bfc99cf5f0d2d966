use Rattle.std.proofs.Common.{refl, arith}
use Rattle.state_text.specs.Memory.{fnv_of}
use Rattle.state_text.proofs.Numbering.{fnv-turn, fnv-end}
use Rattle.state_text.proofs.memory.fnv.Goals as goal

pub loop-b-init : goal.loop-b-init
unfolding fnv_of
loop-b-init c = refl

pub loop-b-preserved : goal.loop-b-preserved
loop-b-preserved c = fnv-turn _ _ _ c.loop-b.invariant _ _ (omega arith) c.from.ensures refl

pub returns : goal.returns
returns c = fnv-end c.args.bytes.now _ _ c.loop-b.invariant (omega arith)
