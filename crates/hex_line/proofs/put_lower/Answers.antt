use mathlib.Core.Path.{◌∙◌}
use mathlib.Core.List.{map}
use native.Mathlib.Nat.{zero-add}
use native.Mathlib.Omega.{arith}
use lib.ListN.{length, length-map}
use Rattle.pieces.proofs.Loops.{up_start, up_turn, up_done}
use Rattle.hex_line.specs.Line.{lower}
use Rattle.hex_line.proofs.Texts.{lower-at}
use Rattle.hex_line.proofs.put_lower.Goals as goal

pub loop-i-init : goal.loop-i-init
loop-i-init c = up_start _ 0 (map lower c.args.text.now) _

pub loop-i-preserved : goal.loop-i-preserved
loop-i-preserved c =
    let text = c.args.text.now in
    let inv = c.loop-i.invariant in
    rw zero-add at (up_turn _ 0 (map lower text) (length text) _ _ _ (length-map text lower) (omega arith) inv c.loop-i-test.true (c.to_ascii_lowercase.ensures.value ∙ lower-at text _))

pub returns : goal.returns
returns c =
    let text = c.args.text.now in
    up_done _ _ _ _ _ _ (length-map text lower) c.loop-i.invariant c.loop-i-test.false
