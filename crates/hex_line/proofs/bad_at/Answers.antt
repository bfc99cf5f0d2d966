use Rattle.hex_line.proofs.Texts.{passed_start, passed-turn, passed-stop, passed-end}
use Rattle.hex_line.proofs.Verdicts.{no-hex, some-hex}
use Rattle.hex_line.proofs.bad_at.Goals as goal

pub loop-i-init : goal.loop-i-init
loop-i-init c = passed_start _ _

pub returns-then-is_none : goal.returns-then-is_none
returns-then-is_none c = passed-stop c.loop-i.invariant c.loop-i-test.true (no-hex _ c.nibble_of.ensures.value _ c.is_none.ensures c.if-is_none.true)

pub loop-i-preserved : goal.loop-i-preserved
loop-i-preserved c = passed-turn c.loop-i.invariant c.loop-i-test.true (some-hex _ c.nibble_of.ensures.value _ c.is_none.ensures c.if-is_none.false)

pub returns : goal.returns
returns c = passed-end c.loop-i.invariant c.loop-i-test.false
