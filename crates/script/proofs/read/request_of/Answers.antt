use native.Mathlib.Omega.{arith}
use Rattle.script.proofs.Lines.{no-request, no-block1, no-block2, request-read}
use Rattle.script_cut.specs.Cut.{texts}
use Rattle.script.proofs.read.request_of.Goals as goal

pub returns-in_err-call-clause-scratch_after : goal.returns-in_err-call-clause-scratch_after
returns-in_err-call-clause-scratch_after c = rw c.from_residual.ensures (no-request _ c.in_err-call.ensures)

pub option_field-requires : goal.option_field-requires
option_field-requires c = omega (arith, c.in_ok-call.ensures.half, c.requires)

pub returns-in_err-block1-clause-scratch_after : goal.returns-in_err-block1-clause-scratch_after
returns-in_err-block1-clause-scratch_after c = rw c.from_residual-in_err-block1.ensures (no-block1 (texts c.args.six) c.in_err-block1.ensures)

pub option_field-requires-2 : goal.option_field-requires-2
option_field-requires-2 c = omega (arith, c.in_ok-block1.ensures.1.half, c.in_ok-call.ensures.half, c.requires)

pub returns-in_err-block2-clause-scratch_after : goal.returns-in_err-block2-clause-scratch_after
returns-in_err-block2-clause-scratch_after c = rw c.from_residual-in_err-block2.ensures (no-block2 (texts c.args.six) c.in_err-block2.ensures)

pub returns : goal.returns
returns c =
    let both = request-read (texts c.args.six) c.in_ok-call.ensures c.is_given.ensures c.is_given-2.ensures c.in_ok-block1.ensures c.in_ok-block2.ensures in
    record { scratch_after = both.0; in_buffer = both.1 }
