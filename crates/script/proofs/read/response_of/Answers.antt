use native.Mathlib.Omega.{arith}
use Rattle.script.proofs.Lines.{no-response, no_own, large-own, no-head, response-read}
use Rattle.script_fields.proofs.Numbers.{number-good, number-bad}
use Rattle.script_cut.specs.Cut.{texts}
use Rattle.script.proofs.read.response_of.Goals as goal

pub returns-in_err-call-clause-scratch_after : goal.returns-in_err-call-clause-scratch_after
returns-in_err-call-clause-scratch_after c = rw c.from_residual.ensures (no-response _ c.in_err-call.ensures)

pub returns-in_err-own-clause-scratch_after : goal.returns-in_err-own-clause-scratch_after
returns-in_err-own-clause-scratch_after c = rw c.from_residual-in_err-own.ensures (no_own (texts c.args.six) (number-bad _ c.in_err-own.ensures))

pub returns-then-own-gt1-clause-scratch_after : goal.returns-then-own-gt1-clause-scratch_after
returns-then-own-gt1-clause-scratch_after c = let own = number-good _ _ c.in_ok-own.ensures in large-own (texts c.args.six) _ own.1 c.if-own-gt1.true

pub bytes_field-requires : goal.bytes_field-requires
bytes_field-requires c = omega (arith, c.in_ok-call.ensures.half, c.requires)

pub returns-in_err-head-clause-scratch_after : goal.returns-in_err-head-clause-scratch_after
returns-in_err-head-clause-scratch_after c = rw c.from_residual-in_err-head.ensures (no-head (texts c.args.six) c.in_err-head.ensures)

pub returns : goal.returns
returns c =
    let both = response-read (texts c.args.six) c.in_ok-call.ensures (number-good _ _ c.in_ok-own.ensures) c.if-own-gt1.false c.in_ok-head.ensures in
    record { scratch_after = both.0; in_buffer = both.1 }
