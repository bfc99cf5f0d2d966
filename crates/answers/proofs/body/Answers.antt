use mathlib.Core.Path.{◌∙◌}
use borrow.Author.Rules.{rules}
use Rattle.answers.proofs.body.Goals as goal

pub returns : goal.returns
returns c = c.bytes_of.ensures ∙ rw (c.body_source.ensures, c.kind_number.ensures, c.said-s.ensures)
