use mathlib.Core.Path.{◌∙◌}
use borrow.Author.Rules.{rules}
use Rattle.answers.proofs.served_head.Goals as goal

pub returns : goal.returns
returns c = c.bytes_of.ensures ∙ rw (c.served_source.ensures, c.kind_number.ensures, c.said-s.ensures)
