use mathlib.Core.Path.{refl, sym, ◌∙◌}
use native.Mathlib.Omega.{arith}
use Rattle.block_state.proofs.Steps.{returned}
use Rattle.request_block1.proofs.Taking.{taken-at-most}
use Rattle.request_step.proofs.Steps.{step-refused, step-plain, step-large, step_went}
use Rattle.request_step.proofs.step_request.Goals as goal

pub returns-in-Err : goal.returns-in-Err
returns-in-Err c = returned _ _ _ _ c.refused.ensures ∙ sym (step-refused _ _ _ _ _ _ _ _ _ _ (sym c.negotiate_block_size_if_necessary-agreed.ensures ∙ c.in-Err.is))

pub returns-in-Ok-None : goal.returns-in-Ok-None
returns-in-Ok-None c =
    let none = rw (rw c.in-Ok-None.is at c.in-Ok-None.field-0-is) at c.in-Ok-None.is in
    c.maybe_handle_request_block2.ensures _ ∙ sym (step-plain _ _ _ _ _ _ _ _ _ (sym c.negotiate_block_size_if_necessary-agreed.ensures ∙ none))

pub returns-in_default : goal.returns-in_default
returns-in_default c =
    let some = rw (rw c.in-Ok-Some.is at c.in-Ok-Some.field-0-is) at c.in-Ok-Some.is in
    returned _ _ _ _ c.answered.ensures
    ∙ sym (step-large _ _ _ _ _ _ _ _ _ _ (sym c.negotiate_block_size_if_necessary-agreed.ensures ∙ some) c.in_default.is)

pub go_on-requires : goal.go_on-requires
go_on-requires c = (c.requires.home, c.requires.away, rw c.handle_request_block1-taken.ensures.value (taken-at-most _ _ _ _ 4294967295 (omega (arith, c.requires.size, c.requires.small))))

pub returns : goal.returns
returns c =
    let some = rw (rw c.in-Ok-Some.is at c.in-Ok-Some.field-0-is) at c.in-Ok-Some.is in
    step_went _ _ _ _ _ _ _ _ _ _ (sym c.negotiate_block_size_if_necessary-agreed.ensures ∙ some) _ _ _ _ _ _
    c.go_on.ensures refl c.handle_request_block1-taken.ensures.piece_after c.in-Some.is c.handle_request_block1-taken.ensures.value
