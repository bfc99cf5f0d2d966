use mathlib.Core.Path.{sym, ◌∙◌}
use Rattle.hex_line.proofs.Texts.{passed_start, passed-turn, passed-stop, passed-end}
use Rattle.hex_line.proofs.start_of.Goals as goal

pub loop-i-init : goal.loop-i-init
loop-i-init c = passed_start _ _

pub returns-then-not-is_blank : goal.returns-then-not-is_blank
returns-then-not-is_blank c = passed-stop c.loop-i.invariant c.loop-i-test.true (sym c.is_blank.ensures ∙ c.if-not-is_blank.true)

pub loop-i-preserved : goal.loop-i-preserved
loop-i-preserved c = passed-turn c.loop-i.invariant c.loop-i-test.true (sym c.is_blank.ensures ∙ c.if-not-is_blank.false)

pub returns : goal.returns
returns c = passed-end c.loop-i.invariant c.loop-i-test.false
