use Rattle.std.proofs.Common.{arith, ap, ◌∙◌}
use Rattle.std.specs.Prelude.{Ok}
use Rattle.one_option.proofs.Laws.{at-past, index-bounds}
use Rattle.one_option.proofs.next_option.Goals as goal

pub returns-then-message-at : goal.returns-then-message-at
returns-then-message-at c = at-past _ _ _ c.if-message-at.true

pub overflow_add-result : goal.overflow_add-result
overflow_add-result c =
    let b = index-bounds c.args.message.now c.args.at _ _ c.next_in.ensures c.if-message-at.false _ _ _ (c.in_ok-option.was ∙ ap Ok c.in-Some.is) in
    omega (arith, b.ends, b.there)

pub overflow_add-result-2 : goal.overflow_add-result-2
overflow_add-result-2 c =
    let b = index-bounds c.args.message.now c.args.at _ _ c.next_in.ensures c.if-message-at.false _ _ _ (c.in_ok-option.was ∙ ap Ok c.in-Some.is) in
    omega (arith, b.there)
