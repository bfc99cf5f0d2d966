use mathlib.Core.Path.{◌∙◌}
use native.Mathlib.Omega.{arith}
use lib.ListN.{length}
use Rattle.entries.specs.Entries.{sweep}
use Rattle.places.specs.Places.{opened}
use Rattle.judge.specs.Verdict.{lengths}
use Rattle.judge.proofs.Judged.{AtPlace, at_place}
use Rattle.call.proofs.Meanings.{opened-at, changed-at, lent-piece, lent_length, lent_back, response-left}
use Rattle.response_call.proofs.response_at.Goals as goal

pub overflow_mul-from : goal.overflow_mul-from
overflow_mul-from c =
    let placed : AtPlace c.args.config c.requires.2 c.args.numbers.time c.requires.0
    (lengths c.requires.1 (length c.args.response.now) c.args.numbers.bare (length c.args.payload.now) (length c.args.head.now)) c.args.i =
    at_place _ _ _ _ _ _ c.requires.3.1.1 in
    omega (arith, placed)

pub overflow_add-end : goal.overflow_add-end
overflow_add-end c =
    let placed : AtPlace c.args.config c.requires.2 c.args.numbers.time c.requires.0
    (lengths c.requires.1 (length c.args.response.now) c.args.numbers.bare (length c.args.payload.now) (length c.args.head.now)) c.args.i =
    at_place _ _ _ _ _ _ c.requires.3.1.1 in
    omega (arith, placed)

pub slice_bounds-step_response-end : goal.slice_bounds-step_response-end
slice_bounds-step_response-end c =
    let placed : AtPlace c.args.config c.requires.2 c.args.numbers.time c.requires.0
    (lengths c.requires.1 (length c.args.response.now) c.args.numbers.bare (length c.args.payload.now) (length c.args.head.now)) c.args.i =
    at_place _ _ _ _ _ _ c.requires.3.1.1 in
    omega (arith, placed)

pub step_response-step-requires : goal.step_response-step-requires
step_response-step-requires c =
    let placed : AtPlace c.args.config c.requires.2 c.args.numbers.time c.requires.0
    (lengths c.requires.1 (length c.args.response.now) c.args.numbers.bare (length c.args.payload.now) (length c.args.head.now)) c.args.i =
    at_place _ _ _ _ _ _ c.requires.3.1.1 in
    let p = placed in
    (lent_length c.args.response.now c.args.config.response c.args.i p.down, omega arith, p.headed)

pub returns : goal.returns
returns c =
    let m = c.args.response.now in
    let n = c.args.config.response in
    λ k u t has d.
    let is = c.opened_entry-e.ensures ∙ opened-at _ _ _ _ _ _ t has.1 _ has.0 in
    let p = at_place _ t _ _ _ _ has.1.1 in
    let row = sweep c.args.config.lifetime c.args.numbers.time t.entries in
    rw c.leave.ensures
    (response-left c.args.config t d m c.args.numbers.time row c.args.i (opened k row) _ c.step_response-step.result.state c.step_response-step.new.piece _ c.step_response-step.result.answer
    (rw is (changed-at _ _ _ _ _ _ t has.1 _ c.step_response-step.result)) _ (rw (is, lent-piece m n c.args.i) at c.step_response-step.ensures)
    (lent_back m n c.args.i _ (c.step_response-step.auto.piece ∙ lent_length m n c.args.i p.down)))
