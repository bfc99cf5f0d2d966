use mathlib.Core.Path.{refl, ap, ◌∙◌}
use mathlib.Core.Bool.{not}
use Rattle.replay_control.proofs.Controls.{tested, tested-not, no_kind, strict-start, plain-start, no_mode}
use Rattle.replay_control.proofs.lines.start_of.Goals as goal

pub returns-then-ne : goal.returns-then-ne
returns-then-ne c = no_kind _ (tested-not c.ne.ensures refl c.as_slice.ensures ∙ ap not c.if-ne.true)

pub returns-then-eq : goal.returns-then-eq
returns-then-eq c =
    c.config_of.ensures
    ∙ strict-start _ (tested-not c.ne.ensures refl c.as_slice.ensures ∙ ap not c.if-ne.false)
    (tested c.eq.ensures refl c.as_slice-2.ensures ∙ c.if-eq.true)

pub returns-then-eq-2 : goal.returns-then-eq-2
returns-then-eq-2 c =
    c.config_of-then-eq-2.ensures
    ∙ plain-start _ (tested-not c.ne.ensures refl c.as_slice.ensures ∙ ap not c.if-ne.false)
    (tested c.eq.ensures refl c.as_slice-2.ensures ∙ c.if-eq.false)
    (tested c.eq-2.ensures refl c.as_slice-3.ensures ∙ c.if-eq-2.true)

pub returns : goal.returns
returns c =
    no_mode _ (tested-not c.ne.ensures refl c.as_slice.ensures ∙ ap not c.if-ne.false)
    (tested c.eq.ensures refl c.as_slice-2.ensures ∙ c.if-eq.false)
    (tested c.eq-2.ensures refl c.as_slice-3.ensures ∙ c.if-eq-2.false)
