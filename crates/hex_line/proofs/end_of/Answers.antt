use Rattle.std.proofs.Common.{arith, sym, ◌∙◌}
use Rattle.hex_line.proofs.Texts.{bare-turn, bare-stop, bare-none}
use Rattle.hex_line.proofs.end_of.Goals as goal

pub returns-then-not-is_blank : goal.returns-then-not-is_blank
returns-then-not-is_blank c =
    let bare = c.loop-rest.invariant in
    (bare-stop bare (omega arith) (sym c.is_blank.ensures ∙ c.if-not-is_blank.true), bare.within)

pub loop-rest-preserved : goal.loop-rest-preserved
loop-rest-preserved c = bare-turn c.loop-rest.invariant (omega arith) (sym c.is_blank.ensures ∙ c.if-not-is_blank.false)

pub returns : goal.returns
returns c = (bare-none c.loop-rest.invariant (omega arith), omega arith)
