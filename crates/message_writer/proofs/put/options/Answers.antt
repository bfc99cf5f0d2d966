use Rattle.std.proofs.Common.{arith, length-append}
use Rattle.std.proofs.lemmas.Slice.Zip.{zip_end}
use Rattle.message_writer.proofs.Ahead.{turn, all-done, ahead-start, ahead-done, turn-fits, value-length, turn-room, turned}
use Rattle.message_writer.proofs.put.options.Goals as goal

pub loop-number-init : goal.loop-number-init
loop-number-init c = ahead-start _ _ _ _ _ c.requires.values_value c.requires.values_value_2 c.requires.values_in_bounds

pub overflow_sub-number : goal.overflow_sub-number
overflow_sub-number c =
    let t = turn c.loop-number.yielded c.into_iter-number-iterator.result c.loop-number.number-iterator c.next.new.self c.next.result (cc) (cc)
    c.loop-number.yielded_by (c.in-Some.number, c.in-Some.len) c.in-Some.is c.next.ensures.steps c.loop-number.invariant in
    omega (arith, turn-fits t)

pub slice_bounds-option-end : goal.slice_bounds-option-end
slice_bounds-option-end c =
    let t = turn c.loop-number.yielded c.into_iter-number-iterator.result c.loop-number.number-iterator c.next.new.self c.next.result (cc) (cc)
    c.loop-number.yielded_by (c.in-Some.number, c.in-Some.len) c.in-Some.is c.next.ensures.steps c.loop-number.invariant in
    omega (arith, turn-fits t)

pub option-to-requires-clause-delta_bound : goal.option-to-requires-clause-delta_bound
option-to-requires-clause-delta_bound c =
    let t = turn c.loop-number.yielded c.into_iter-number-iterator.result c.loop-number.number-iterator c.next.new.self c.next.result (cc) (cc)
    c.loop-number.yielded_by (c.in-Some.number, c.in-Some.len) c.in-Some.is c.next.ensures.steps c.loop-number.invariant in
    let f = turn-fits t in
    (omega arith, omega (arith, value-length t))

pub option-to-requires-clause-value_in_bounds : goal.option-to-requires-clause-value_in_bounds
option-to-requires-clause-value_in_bounds c =
    let t = turn c.loop-number.yielded c.into_iter-number-iterator.result c.loop-number.number-iterator c.next.new.self c.next.result (cc) (cc)
    c.loop-number.yielded_by (c.in-Some.number, c.in-Some.len) c.in-Some.is c.next.ensures.steps c.loop-number.invariant in
    turn-room t

pub loop-number-preserved : goal.loop-number-preserved
loop-number-preserved c =
    let t = turn c.loop-number.yielded c.into_iter-number-iterator.result c.loop-number.number-iterator c.next.new.self c.next.result (cc) (cc)
    c.loop-number.yielded_by (c.in-Some.number, c.in-Some.len) c.in-Some.is c.next.ensures.steps c.loop-number.invariant in
    rw length-append (turned t c.option-to.ensures)

pub returns : goal.returns
returns c =
    let over = zip_end c.args.numbers.now c.args.lengths.now c.loop-number.yielded c.into_iter-number-iterator.result c.loop-number.number-iterator c.next.new.self c.next.result (cc) (cc)
    c.loop-number.yielded_by c.in-None.is c.next.ensures.steps in
    ahead-done c.loop-number.invariant (all-done c.loop-number.invariant over)
