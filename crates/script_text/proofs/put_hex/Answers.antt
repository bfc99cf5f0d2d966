use native.Mathlib.Omega.{arith}
use Rattle.script_text.proofs.Laws.{hexed-start, hexed-turn}
use Rattle.script_text.proofs.put_hex.Goals as goal

pub loop-b-init : goal.loop-b-init
loop-b-init c = hexed-start _ _ _ c.requires

pub loop-b-preserved : goal.loop-b-preserved
loop-b-preserved c = hexed-turn _ _ _ _ _ _ _ _ c.requires c.loop-b.invariant (omega arith) c.hex_digit.ensures c.hex_digit-in-loop-b.ensures
