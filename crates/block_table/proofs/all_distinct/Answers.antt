use Rattle.std.proofs.Common.{sym, ◌∙◌, rules}
use Rattle.entries.proofs.Turns.{nil}
use Rattle.block_table.proofs.Quick.{row-go, row-no, row-end}
use Rattle.block_table.proofs.all_distinct.Goals as goal

pub returns-then-not-alone_from : goal.returns-then-not-alone_from
returns-then-not-alone_from c = sym (row-no _ c.loop-i.i nil (search rules) (sym c.alone_from.ensures ∙ c.if-not-alone_from.true)) ∙ c.loop-i.invariant

pub loop-i-preserved : goal.loop-i-preserved
loop-i-preserved c = row-go _ c.loop-i.i nil (search rules) (sym c.alone_from.ensures ∙ c.if-not-alone_from.false) ∙ c.loop-i.invariant

pub returns : goal.returns
returns c = sym (row-end _ c.loop-i.i (search rules)) ∙ c.loop-i.invariant
