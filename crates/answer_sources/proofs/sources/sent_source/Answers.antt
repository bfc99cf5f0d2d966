use mathlib.Core.Path.{◌∙◌}
use borrow.Author.Tests.{eq-eqb, ne_eqb}
use borrow.Author.Rules.{rules}
use Rattle.answer_sources.proofs.sources.sent_source.Goals as goal

pub returns-then-kind-eq6 : goal.returns-then-kind-eq6
returns-then-kind-eq6 c = rw (eq-eqb c.args.kind 6 c.if-kind-eq6.true)

pub returns : goal.returns
returns c = c.source.ensures ∙ rw (ne_eqb c.args.kind 6 c.if-kind-eq6.false)
