use Rattle.std.proofs.Common.{arith, sym, ◌∙◌}
use Rattle.message_measure.specs.Given.{given}
use Rattle.message_measure.proofs.Taken.{not_taken, empty-refused, options-small, options-left}
use Rattle.message_measure.proofs.takes.Goals as goal

pub returns-then-message_type-gt3 : goal.returns-then-message_type-gt3
returns-then-message_type-gt3 c = λ id h.
    not_taken _ (given _ _ id _ _ _ _ _) (λ t. omega (arith, t.kind, t.token, c.then-message_type-gt3.either))

pub returns-then-not-empty_ok : goal.returns-then-not-empty_ok
returns-then-not-empty_ok c = λ id h. empty-refused _ (given _ _ id _ _ _ _ _) _ c.empty_ok.ensures c.if-not-empty_ok.true

pub returns-in_default : goal.returns-in_default
returns-in_default c = λ id h.
    not_taken _ (given _ _ id _ _ _ _ _) (λ t. omega (arith, t.small, c.in_default.ensures))

pub returns-in_default-options : goal.returns-in_default-options
returns-in_default-options c = λ id h.
    options-small _ (given _ _ id _ _ _ _ _) _ (omega (arith, c.in-Some.ensures)) c.options.ensures c.in_default-options.is

pub returns : goal.returns
returns c = λ id h.
    c.payload_fits.ensures
    ∙ options-left _ (given _ _ id _ _ _ _ _) _ (omega (arith, c.in-Some.ensures)) c.options.ensures _ c.in-Some-options.is
    c.if-message_type-gt3.false (omega arith) h c.if-token-gt8.false (sym c.empty_ok.ensures ∙ c.if-not-empty_ok.false)
