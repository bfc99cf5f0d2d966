use Rattle.script_cut.proofs.Splitting.{next-behind, next-none}
use Rattle.script_cut.proofs.next_from.Goals as goal

pub returns-then-line-space : goal.returns-then-line-space
returns-then-line-space c = next-none c.if-line-space.true

pub returns : goal.returns
returns c = next-behind c.if-line-space.false c.mark_from.ensures
