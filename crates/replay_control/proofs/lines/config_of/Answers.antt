use native.Mathlib.Omega.{arith}
use Rattle.script_fields.proofs.Numbers.{number-good, number-bad}
use Rattle.replay_control.proofs.Controls.{no_number, fresh_start}
use Rattle.script_cut.specs.Cut.{texts}
use Rattle.replay_control.proofs.lines.config_of.Goals as goal

pub returns-in_err-limit : goal.returns-in_err-limit
returns-in_err-limit c = rw c.from_residual.ensures (no_number (texts c.args.six) _ 2 (omega arith) (omega arith) (number-bad _ c.in_err-limit.ensures))

pub returns-in_err-lifetime : goal.returns-in_err-lifetime
returns-in_err-lifetime c = rw c.from_residual-in_err-lifetime.ensures (no_number (texts c.args.six) _ 3 (omega arith) (omega arith) (number-bad _ c.in_err-lifetime.ensures))

pub returns-in_err-upload : goal.returns-in_err-upload
returns-in_err-upload c = rw c.from_residual-in_err-upload.ensures (no_number (texts c.args.six) _ 4 (omega arith) (omega arith) (number-bad _ c.in_err-upload.ensures))

pub returns-in_err-response : goal.returns-in_err-response
returns-in_err-response c = rw c.from_residual-in_err-response.ensures (no_number (texts c.args.six) _ 5 (omega arith) (omega arith) (number-bad _ c.in_err-response.ensures))

pub returns : goal.returns
returns c =
    fresh_start (texts c.args.six) _
    (number-good _ _ c.in_ok-limit.ensures)
    (number-good _ _ c.in_ok-lifetime.ensures)
    (number-good _ _ c.in_ok-upload.ensures)
    (number-good _ _ c.in_ok-response.ensures)
