use mathlib.Core.Path.{sym, ◌∙◌}
use Rattle.lent_steps.proofs.Forms.{reply-room, leaves_all, leaves-step}
use Rattle.lent_steps.proofs.response.Goals as goal

pub returns-then-not-response_room : goal.returns-then-not-response_room
returns-then-not-response_room c = leaves_all _ _ _ _ _ _ _ (sym c.response_room.ensures ∙ c.if-not-response_room.true) c.refused.ensures

pub step_response-step-requires : goal.step_response-step-requires
step_response-step-requires c = reply-room _ _ _ _ _ (sym c.response_room.ensures ∙ c.if-not-response_room.false)

pub returns : goal.returns
returns c = leaves-step _ _ _ _ _ _ _ _ _ _ (sym c.response_room.ensures ∙ c.if-not-response_room.false) c.step_response-step.ensures c.touched.ensures
