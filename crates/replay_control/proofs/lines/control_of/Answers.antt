use mathlib.Core.Path.{refl, ◌∙◌}
use Rattle.replay_control.proofs.Controls.{tested, show-line, not-six, no_start_lem, some-start}
use Rattle.replay_control.proofs.lines.control_of.Goals as goal

pub returns-then-eq : goal.returns-then-eq
returns-then-eq c = show-line _ (tested c.eq.ensures refl c.as_slice.ensures ∙ c.if-eq.true)

pub returns-in_err-six : goal.returns-in_err-six
returns-in_err-six c = rw c.from_residual.ensures (not-six _ (tested c.eq.ensures refl c.as_slice.ensures ∙ c.if-eq.false) c.in_err-six.ensures)

pub returns-in_err-config : goal.returns-in_err-config
returns-in_err-config c =
    rw c.from_residual-in_err-config.ensures
    (no_start_lem _ (tested c.eq.ensures refl c.as_slice.ensures ∙ c.if-eq.false) c.in_ok-six.ensures refl c.in_err-config.ensures)

pub returns : goal.returns
returns c = some-start _ (tested c.eq.ensures refl c.as_slice.ensures ∙ c.if-eq.false) c.in_ok-six.ensures refl _ c.in_ok-config.ensures
