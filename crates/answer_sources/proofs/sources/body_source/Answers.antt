use mathlib.Core.Path.{◌∙◌}
use borrow.Author.Tests.{eq-eqb, ne_eqb}
use borrow.Author.Rules.{rules}
use Rattle.answer_sources.proofs.sources.body_source.Goals as goal

pub returns-then-kind-eq4 : goal.returns-then-kind-eq4
returns-then-kind-eq4 c = rw (eq-eqb c.args.kind 4 c.if-kind-eq4.true)

pub returns : goal.returns
returns c = c.source.ensures ∙ rw (ne_eqb c.args.kind 4 c.if-kind-eq4.false)
