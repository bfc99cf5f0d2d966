use mathlib.Core.Path.{sym, ◌∙◌}
use Rattle.request_block2.proofs.Serving.{onward-absent, onward-held, onward-none}
use Rattle.request_block2.proofs.maybe_handle_request_block2.Goals as goal

pub returns-in_default : goal.returns-in_default
returns-in_default c = λ u. rw (c.answered.ensures, c.with_recorded-next.ensures) (sym (onward-absent _ _ u _ _ _ c.in_default.is))

pub returns-then-state : goal.returns-then-state
returns-then-state c =
    λ u.
    c.serve_cached_response.ensures u ∙ sym (onward-held _ _ u _ _ _ _ c.in-Some.is c.if-state.true _ c.with_recorded-next.ensures)

pub returns : goal.returns
returns c = λ u. rw (c.answered-2.ensures, c.with_recorded-next.ensures) (sym (onward-none _ _ u _ _ _ _ c.in-Some.is c.if-state.false))
