use native.Mathlib.Omega.{arith}
use Rattle.script.proofs.Lines.{no-time, no_bare, no_key_lem, no_payload, call-is}
use Rattle.script_fields.proofs.Numbers.{number-good, number-bad}
use Rattle.script_cut.specs.Cut.{texts}
use Rattle.script.proofs.read.call_of.Goals as goal

pub returns-in_err-time : goal.returns-in_err-time
returns-in_err-time c = rw c.from_residual.ensures (no-time (texts c.args.six) (number-bad _ c.in_err-time.ensures))

pub returns-in_err-bare : goal.returns-in_err-bare
returns-in_err-bare c = rw c.from_residual-in_err-bare.ensures (no_bare (texts c.args.six) (number-bad _ c.in_err-bare.ensures))

pub bytes_field-requires : goal.bytes_field-requires
bytes_field-requires c = omega (arith, c.requires)

pub returns-in_err-key : goal.returns-in_err-key
returns-in_err-key c = rw c.from_residual-in_err-key.ensures (no_key_lem (texts c.args.six) c.in_err-key.ensures)

pub bytes_field-requires-2 : goal.bytes_field-requires-2
bytes_field-requires-2 c = omega (arith, c.in_ok-key.ensures.1.half, c.requires)

pub returns-in_err-payload : goal.returns-in_err-payload
returns-in_err-payload c = rw c.from_residual-in_err-payload.ensures (no_payload (texts c.args.six) c.in_err-payload.ensures)

pub returns : goal.returns
returns c =
    call-is (texts c.args.six) _ (number-good _ _ c.in_ok-time.ensures) (number-good _ _ c.in_ok-bare.ensures) c.in_ok-key.ensures c.in_ok-payload.ensures
