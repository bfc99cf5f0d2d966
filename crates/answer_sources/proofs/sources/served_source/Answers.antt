use borrow.Author.Rules.{rules}
use Rattle.answer_sources.proofs.sources.served_source.Goals as goal

pub returns : goal.returns
returns c = c.source.ensures
