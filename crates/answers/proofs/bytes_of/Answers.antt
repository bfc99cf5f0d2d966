use mathlib.Core.Path.{sym, ap, ◌∙◌}
use Rattle.answer_sources.specs.declared.Source.{Source}
use Rattle.answer_sources.specs.Parts.{bytes_of}
use borrow.Author.Rules.{rules}
use Rattle.answers.proofs.bytes_of.Goals as goal

pub returns-in-Within : goal.returns-in-Within
returns-in-Within c = c.within.ensures ∙ sym (ap (λ (s : Source). bytes_of s c.args.message.now c.args.memory.now) c.in-Within.is)
