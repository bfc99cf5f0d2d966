use mathlib.Core.Path.{sym, ◌∙◌}
use Rattle.negotiation.proofs.Laws.{asks}
use Rattle.negotiation.proofs.request_block.Goals as goal

pub returns-in_default : goal.returns-in_default
returns-in_default c = rw (asks c.args.config c.args.given c.args.option.now, c.if-given.true) (sym c.in_default.is ∙ c.read.ensures)

pub returns-then-given : goal.returns-then-given
returns-then-given c = rw (asks c.args.config c.args.given c.args.option.now, c.if-given.true) (sym c.in-Some.is ∙ c.read.ensures)

pub returns : goal.returns
returns c = rw (asks c.args.config c.args.given c.args.option.now, c.if-given.false)
