use mathlib.Core.Path.{sym, ◌∙◌}
use Rattle.request_step.proofs.Steps.{step-read}
use Rattle.lent_steps.proofs.Forms.{room_of_lem, leaves_all, leaves-step}
use Rattle.lent_steps.proofs.request.Goals as goal

pub returns-then-not-request_room : goal.returns-then-not-request_room
returns-then-not-request_room c = leaves_all _ _ _ _ _ _ _ (sym c.request_room.ensures ∙ c.if-not-request_room.true) c.refused.ensures

pub step_request-step-requires : goal.step_request-step-requires
step_request-step-requires c = room_of_lem _ _ _ _ _ _ (sym c.request_room.ensures ∙ c.if-not-request_room.false)

pub returns : goal.returns
returns c =
    leaves-step _ _ _ _ _ _ _ _ _ _ (sym c.request_room.ensures ∙ c.if-not-request_room.false)
    (c.step_request-step.ensures ∙ step-read _ _ _ _ _ c.args.numbers c.args.block1.now c.args.block2.now _ _ c.read_options-asked.ensures) c.touched.ensures
