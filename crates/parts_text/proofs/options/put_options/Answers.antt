use Rattle.std.proofs.Common.{arith, sym, ap, ◌∙◌, length, length-drop}
use Rattle.pieces.proofs.Puts.{put_then, put_as}
use Rattle.std.specs.Prelude.{Ok}
use Rattle.one_option.proofs.Laws.{at_bounds}
use Rattle.parts_text.proofs.Laws.{value-length, options-over, options-broken, text-none, text-some}
use Rattle.parts_text.proofs.options.put_options.Goals as goal

pub slice_bounds-put_option-count : goal.slice_bounds-put_option-count
slice_bounds-put_option-count c =
    let b = at_bounds c.args.message.now c.args.first _ _ _ _ (sym c.next_option.ensures ∙ c.in-Ok-Some.is ∙ ap Ok c.in-Ok-Some.field-0-is) in
    omega arith

pub slice_bounds-put_option-start : goal.slice_bounds-put_option-start
slice_bounds-put_option-start c =
    let b = at_bounds c.args.message.now c.args.first _ _ _ _ (sym c.next_option.ensures ∙ c.in-Ok-Some.is ∙ ap Ok c.in-Ok-Some.field-0-is) in
    omega arith

pub slice_bounds-put_option-end : goal.slice_bounds-put_option-end
slice_bounds-put_option-end c =
    let b = at_bounds c.args.message.now c.args.first _ _ _ _ (sym c.next_option.ensures ∙ c.in-Ok-Some.is ∙ ap Ok c.in-Ok-Some.field-0-is) in
    omega arith

pub put_option-k-requires : goal.put_option-k-requires
put_option-k-requires c =
    let b = at_bounds c.args.message.now c.args.first _ _ _ _ (sym c.next_option.ensures ∙ c.in-Ok-Some.is ∙ ap Ok c.in-Ok-Some.field-0-is) in
    let v = value-length c.args.message.now _ _ b.ends b.there in
    omega arith

pub put_more-requires : goal.put_more-requires
put_more-requires c =
    let b = at_bounds c.args.message.now c.args.first _ _ _ _ (sym c.next_option.ensures ∙ c.in-Ok-Some.is ∙ ap Ok c.in-Ok-Some.field-0-is) in
    let v = value-length c.args.message.now _ _ b.ends b.there in
    record { first_in_bounds = b.there; first_in_bounds_2 = omega arith }

pub returns-in-Ok-Some : goal.returns-in-Ok-Some
returns-in-Ok-Some c =
    λ list left are.
    let b = at_bounds c.args.message.now c.args.first _ _ _ _ (sym c.next_option.ensures ∙ c.in-Ok-Some.is ∙ ap Ok c.in-Ok-Some.field-0-is) in
    let v = value-length c.args.message.now _ _ b.ends b.there in
    let t = text-some c.args.message.now c.args.first list left are _ _ _ (sym c.next_option.ensures ∙ c.in-Ok-Some.is ∙ ap Ok c.in-Ok-Some.field-0-is) in
    let w = c.put_more.ensures t.0 left t.1 in
    (put_as (put_then c.put_option-k.ensures.put w.0) t.2, omega (arith, c.put_option-k.ensures.upper_bound, w.1))

pub returns-in-Ok-None : goal.returns-in-Ok-None
returns-in-Ok-None c =
    λ list left are.
    let e = sym c.next_option.ensures ∙ c.in-Ok-None.is ∙ ap Ok c.in-Ok-None.field-0-is in
    let o = options-over c.args.message.now c.args.first 0 list left are e in (
      put_as c.put_byte.ensures (text-none c.args.message.now c.args.first list left are e),
      omega (arith, c.put_byte.ensures.to, ap length o.1, length-drop c.args.first c.args.message.now),
    )

pub returns-in-Err : goal.returns-in-Err
returns-in-Err c =
    λ list left are.
    absurd (options-broken c.args.message.now c.args.first 0 list left are (sym c.next_option.ensures ∙ c.in-Err.is))
