use mathlib.Core.Path.{◌∙◌}
use borrow.Author.Rules.{rules}
use Rattle.answers.proofs.sent_bytes.Goals as goal

pub returns : goal.returns
returns c = c.bytes_of.ensures ∙ rw (c.sent_source.ensures, c.kind_number.ensures, c.said-s.ensures)
