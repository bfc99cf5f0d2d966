use borrow.Author.Rules.{rules}
use Rattle.answer_sources.proofs.sources.source.Goals as goal

pub returns-then-shown : goal.returns-then-shown
returns-then-shown c = rw c.if-shown.true
