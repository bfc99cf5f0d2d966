use mathlib.Core.Path.{sym, ap, ◌∙◌}
use Rattle.negotiation.specs.Negotiation.{reply_of}
use Rattle.negotiation.proofs.Laws.{reply-none, reply-made}
use Rattle.negotiation.proofs.reply_at.Goals as goal

pub returns-then-size-eq0 : goal.returns-then-size-eq0
returns-then-size-eq0 c = sym (reply-none _ _ _ _ c.if-size-eq0.true)

pub returns : goal.returns
returns c = c.reply_of.ensures ∙ ap reply_of c.make.ensures ∙ sym (reply-made _ _ _ _ c.if-size-eq0.false)
