use Rattle.std.proofs.Common.{arith, sym, ap, ◌≡◌, ◌∙◌}
use Rattle.one_option.specs.Index.{next_at}
use Rattle.message_format.specs.Format.{an_option, no_more}
use Rattle.std.specs.Prelude.{Ok}
use Rattle.one_option.proofs.Laws.{at_bounds}
use Rattle.parts_text.proofs.Laws.{walking_start, walking-turn, walking-done, walking-broken, value-length}
use Rattle.parts_text.proofs.options.put_more.Goals as goal

pub loop-option-init : goal.loop-option-init
loop-option-init c = walking_start _ _ _ _ _ c.requires.first_in_bounds (omega arith)

pub slice_bounds-put_option-count : goal.slice_bounds-put_option-count
slice_bounds-put_option-count c =
    let b = at_bounds c.args.message.now c.loop-option.at _ _ _ _ (sym c.next_option.ensures ∙ c.in-Ok-Some.is ∙ ap Ok c.in-Ok-Some.field-0-is) in
    omega arith

pub slice_bounds-put_option-start : goal.slice_bounds-put_option-start
slice_bounds-put_option-start c =
    let b = at_bounds c.args.message.now c.loop-option.at _ _ _ _ (sym c.next_option.ensures ∙ c.in-Ok-Some.is ∙ ap Ok c.in-Ok-Some.field-0-is) in
    omega arith

pub slice_bounds-put_option-end : goal.slice_bounds-put_option-end
slice_bounds-put_option-end c =
    let b = at_bounds c.args.message.now c.loop-option.at _ _ _ _ (sym c.next_option.ensures ∙ c.in-Ok-Some.is ∙ ap Ok c.in-Ok-Some.field-0-is) in
    omega arith

pub put_option-k-requires : goal.put_option-k-requires
put_option-k-requires c =
    let b = at_bounds c.args.message.now c.loop-option.at _ _ _ _ (sym c.next_option.ensures ∙ c.in-Ok-Some.is ∙ ap Ok c.in-Ok-Some.field-0-is) in
    let v = value-length c.args.message.now _ _ b.ends b.there in
    omega arith

pub loop-option-smaller : goal.loop-option-smaller
loop-option-smaller c =
    let b = at_bounds c.args.message.now c.loop-option.at _ _ _ _ (sym c.next_option.ensures ∙ c.in-Ok-Some.is ∙ ap Ok c.in-Ok-Some.field-0-is) in
    omega arith

pub loop-option-preserved : goal.loop-option-preserved
loop-option-preserved c =
    let next : next_at c.args.message.now c.loop-option.at c.loop-option.last ≡ an_option c.in-Ok-Some.option.number c.in-Ok-Some.option.from c.in-Ok-Some.option.to =
    sym c.next_option.ensures ∙ c.in-Ok-Some.is ∙ ap Ok c.in-Ok-Some.field-0-is in
    walking-turn c.loop-option.invariant _ _ _ next c.put_byte-comma.ensures c.put_option-k.ensures.put c.put_option-k.ensures.upper_bound

pub returns-in_default : goal.returns-in_default
returns-in_default c =
    λ list left are.
    let over : c.next_option.result ≡ no_more = cc in
    walking-done c.loop-option.invariant list left are (sym c.next_option.ensures ∙ over)

pub returns-in_default-2 : goal.returns-in_default-2
returns-in_default-2 c =
    λ list left are. absurd (walking-broken c.loop-option.invariant list left are (sym c.next_option.ensures ∙ c.in_default.is))
