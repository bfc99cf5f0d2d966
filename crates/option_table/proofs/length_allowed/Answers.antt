use Rattle.std.proofs.Common.{refl, sym, ◌∙◌}
use Rattle.option_table.specs.Options.{allowed_of}
use Rattle.option_table.proofs.LookUp.{none_left, passed_by, found, passed_on}
use Rattle.option_table.proofs.length_allowed.Goals as goal

pub loop-registered-init : goal.loop-registered-init
unfolding allowed_of
loop-registered-init c = refl

pub returns-then-number-registered : goal.returns-then-number-registered
returns-then-number-registered c =
    sym (passed_by _ c.rows-registered-items.ensures _ c.loop-registered-test.true _ _ _ c.if-number-registered.true) ∙ c.loop-registered.invariant

pub returns-then-number-registered-2 : goal.returns-then-number-registered-2
returns-then-number-registered-2 c =
    c.within.ensures ∙ found _ c.rows-registered-items.ensures _ c.loop-registered-test.true _ _ _ c.if-number-registered-2.true ∙ c.loop-registered.invariant

pub loop-registered-preserved : goal.loop-registered-preserved
loop-registered-preserved c =
    passed_on _ c.rows-registered-items.ensures _ c.loop-registered-test.true _ _ _ c.if-number-registered-2.false ∙ c.loop-registered.invariant

pub returns : goal.returns
returns c = none_left _ c.rows-registered-items.ensures _ _ _ c.loop-registered-test.false ∙ c.loop-registered.invariant
