use Rattle.script_fields.proofs.Numbers.{upto-start, no_digit_lem, bad-digit, too_large_lem, upto_turn, upto_done}
use native.Mathlib.Omega.{arith}
use mathlib.Core.Path.{sym, ◌∙◌}
use Rattle.script_fields.specs.Fields.{is_digit}
use Rattle.script_fields.proofs.number_field.Goals as goal

pub returns-then-is_empty : goal.returns-then-is_empty
returns-then-is_empty c = sym (no_digit_lem _ (grind arith))

pub loop-x-init : goal.loop-x-init
loop-x-init c = upto-start _

pub returns-then-not-is_ascii_digit : goal.returns-then-not-is_ascii_digit
unfolding is_digit
returns-then-not-is_ascii_digit c = sym (bad-digit _ _ _ c.loop-x.invariant (omega arith) (sym c.is_ascii_digit.ensures.value ∙ c.if-not-is_ascii_digit.true))

pub returns-in_err-checked_mul : goal.returns-in_err-checked_mul
returns-in_err-checked_mul c = rw c.from_residual.ensures (sym (too_large_lem _ _ _ c.loop-x.invariant (omega arith) (omega (arith, c.in_err-checked_mul.ensures))))

pub returns-in_err-sum : goal.returns-in_err-sum
returns-in_err-sum c =
    rw c.from_residual-in_err-sum.ensures
    (sym (too_large_lem _ _ _ c.loop-x.invariant (omega arith) (omega (arith, c.in_ok-checked_mul.ensures, c.in_err-sum.ensures, c.from-d.ensures))))

pub loop-x-preserved : goal.loop-x-preserved
unfolding is_digit
loop-x-preserved c =
    upto_turn _ _ _ _ c.loop-x.invariant (omega arith) (sym c.is_ascii_digit.ensures.value ∙ c.if-not-is_ascii_digit.false)
    (omega (arith, c.in_ok-checked_mul.ensures, c.in_ok-sum.ensures, c.from-d.ensures)) (omega (arith, c.in_ok-sum.ensures))

pub returns : goal.returns
returns c = sym (upto_done _ _ _ c.loop-x.invariant (omega arith) (grind arith))
