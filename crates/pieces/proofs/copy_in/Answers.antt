use mathlib.Core.Path.{refl}
use Rattle.pieces.proofs.Loops.{up_start, up_turn, up_done}
use Rattle.pieces.proofs.copy_in.Goals as goal

pub loop-i-init : goal.loop-i-init
loop-i-init c = up_start _ _ c.args.src.now _

pub loop-i-preserved : goal.loop-i-preserved
loop-i-preserved c = up_turn _ _ _ _ _ _ _ refl c.requires c.loop-i.invariant c.loop-i-test.true refl

pub returns : goal.returns
returns c = up_done _ _ _ _ _ _ refl c.loop-i.invariant c.loop-i-test.false
