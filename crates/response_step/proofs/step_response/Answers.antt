use mathlib.Core.Path.{◌≡◌, sym, ◌∙◌}
use lib.ListN.{length}
use Rattle.negotiation.specs.Negotiation.{negotiated}
use Rattle.block_state.specs.State.{recorded_block}
use Rattle.block_state.proofs.Steps.{returned}
use Rattle.response_step.proofs.Steps.{response-own, response-refused, response-plain, response-chunk}
use Rattle.response_step.proofs.step_response.Goals as goal

pub returns-then-numbers : goal.returns-then-numbers
returns-then-numbers c = returned _ _ _ _ c.answered.ensures ∙ sym (response-own _ _ _ _ c.if-numbers.true)

pub returns-in-Err : goal.returns-in-Err
returns-in-Err c =
    let agreed : c.negotiate_block_size_if_necessary.result ≡ negotiated c.args.config (recorded_block c.args.state.recorded) c.args.numbers.bare (length c.args.payload.now) =
    rw c.recorded_block-recorded.ensures at c.negotiate_block_size_if_necessary.ensures in
    returned _ _ _ _ c.refused.ensures ∙ sym (response-refused _ _ _ _ c.if-numbers.false _ agreed _ c.in-Err.is)

pub returns-in-Ok-None : goal.returns-in-Ok-None
returns-in-Ok-None c =
    let agreed : c.negotiate_block_size_if_necessary.result ≡ negotiated c.args.config (recorded_block c.args.state.recorded) c.args.numbers.bare (length c.args.payload.now) =
    rw c.recorded_block-recorded.ensures at c.negotiate_block_size_if_necessary.ensures in
    returned _ _ _ _ c.answered-in-Ok-None.ensures ∙ sym (response-plain _ _ _ _ c.if-numbers.false _ agreed (rw c.in-Ok-None.field-0-is at c.in-Ok-None.is))

pub returns-in-Ok-Some : goal.returns-in-Ok-Some
returns-in-Ok-Some c =
    let agreed : c.negotiate_block_size_if_necessary.result ≡ negotiated c.args.config (recorded_block c.args.state.recorded) c.args.numbers.bare (length c.args.payload.now) =
    rw c.recorded_block-recorded.ensures at c.negotiate_block_size_if_necessary.ensures in
    c.serve_response.ensures ∙ sym (response-chunk _ _ _ _ c.if-numbers.false _ agreed _ (rw c.in-Ok-Some.field-0-is at c.in-Ok-Some.is))
