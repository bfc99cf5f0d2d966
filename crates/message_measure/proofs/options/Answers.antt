use Rattle.std.proofs.Common.{arith, ◌≡◌, length-append}
use Rattle.std.specs.Slice.Iter.{iter_rest}
use Rattle.std.specs.Iterator.Adapters.{zip_first, zip_second}
use Rattle.std.proofs.lemmas.Slice.Zip.{zip_turn, zip_end}
use Rattle.message_measure.proofs.Measures.{uncounted, measured-small, measured-next, measured-over, measured-done}
use Rattle.message_measure.proofs.options.Goals as goal

pub returns-then-numbers-lengths : goal.returns-then-numbers-lengths
returns-then-numbers-lengths c = uncounted _ _ _ _ c.if-numbers-lengths.true

pub returns-in_err-left : goal.returns-in_err-left
returns-in_err-left c =
    let first : iter_rest (zip_first c.into_iter-number-iterator.result) ≡ c.args.numbers.now = cc in
    let second : iter_rest (zip_second c.into_iter-number-iterator.result) ≡ c.args.lengths.now = cc in
    let turn = zip_turn c.args.numbers.now c.args.lengths.now c.loop-number.yielded c.into_iter-number-iterator.result c.loop-number.number-iterator c.next.new.self c.next.result first second
    c.loop-number.yielded_by (c.in-Some.number, c.in-Some.len) c.in-Some.is c.next.ensures.steps in
    rw c.from_residual.ensures (measured-small c.loop-number.invariant turn.0 (turn.2 0) (turn.3 0) c.option.ensures c.in_err-left.was)

pub loop-number-preserved : goal.loop-number-preserved
loop-number-preserved c =
    let first : iter_rest (zip_first c.into_iter-number-iterator.result) ≡ c.args.numbers.now = cc in
    let second : iter_rest (zip_second c.into_iter-number-iterator.result) ≡ c.args.lengths.now = cc in
    let turn = zip_turn c.args.numbers.now c.args.lengths.now c.loop-number.yielded c.into_iter-number-iterator.result c.loop-number.number-iterator c.next.new.self c.next.result first second
    c.loop-number.yielded_by (c.in-Some.number, c.in-Some.len) c.in-Some.is c.next.ensures.steps in
    rw length-append (measured-next c.loop-number.invariant turn.0 (turn.2 0) (turn.3 0) c.option.ensures _ c.in_ok-left.was)

pub returns-then-at-values : goal.returns-then-at-values
returns-then-at-values c =
    let first : iter_rest (zip_first c.into_iter-number-iterator.result) ≡ c.args.numbers.now = cc in
    let second : iter_rest (zip_second c.into_iter-number-iterator.result) ≡ c.args.lengths.now = cc in
    let over = zip_end c.args.numbers.now c.args.lengths.now c.loop-number.yielded c.into_iter-number-iterator.result c.loop-number.number-iterator c.next.new.self c.next.result first second
    c.loop-number.yielded_by c.in-None.is c.next.ensures.steps in
    measured-over c.loop-number.invariant (omega (arith, over)) c.if-at-values.true

pub returns : goal.returns
returns c =
    let first : iter_rest (zip_first c.into_iter-number-iterator.result) ≡ c.args.numbers.now = cc in
    let second : iter_rest (zip_second c.into_iter-number-iterator.result) ≡ c.args.lengths.now = cc in
    let over = zip_end c.args.numbers.now c.args.lengths.now c.loop-number.yielded c.into_iter-number-iterator.result c.loop-number.number-iterator c.next.new.self c.next.result first second
    c.loop-number.yielded_by c.in-None.is c.next.ensures.steps in
    measured-done c.loop-number.invariant (omega (arith, over)) c.if-at-values.false
