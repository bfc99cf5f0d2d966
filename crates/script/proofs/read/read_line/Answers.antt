use mathlib.Core.Path.{refl, ◌∙◌}
use native.Mathlib.Omega.{arith}
use Rattle.script.proofs.Lines.{short-line, no-space, not-six, other-line, request-line, response-line}
use Rattle.script_cut.specs.Cut.{texts}
use Rattle.script_cut.proofs.Splitting.{fields_fit}
use Rattle.script.proofs.read.read_line.Goals as goal

pub returns-in_default-clause-scratch_after : goal.returns-in_default-clause-scratch_after
returns-in_default-clause-scratch_after c = short-line _ (omega arith)

pub returns-in_default-2-clause-scratch_after : goal.returns-in_default-2-clause-scratch_after
returns-in_default-2-clause-scratch_after c = no-space _ (omega arith) (λ e. omega (arith, e))

pub returns-in_err-six-clause-scratch_after : goal.returns-in_err-six-clause-scratch_after
returns-in_err-six-clause-scratch_after c = rw c.from_residual.ensures (not-six _ (omega arith) (omega arith) c.in_err-six.ensures)

pub request_of-requires : goal.request_of-requires
request_of-requires c = omega (arith, fields_fit c.args.line.now 2 (texts c.in_ok-six.six) c.in_ok-six.ensures, c.requires)

pub response_of-requires : goal.response_of-requires
response_of-requires c = omega (arith, fields_fit c.args.line.now 2 (texts c.in_ok-six.six) c.in_ok-six.ensures, c.requires)

pub returns-in-81-clause-scratch_after : goal.returns-in-81-clause-scratch_after
returns-in-81-clause-scratch_after c =
    c.request_of.ensures.scratch_after ∙ request-line _ (omega arith) (omega arith) c.in_ok-six.ensures refl (omega arith)

pub returns-in-80-clause-scratch_after : goal.returns-in-80-clause-scratch_after
returns-in-80-clause-scratch_after c =
    c.response_of.ensures.scratch_after ∙ response-line _ (omega arith) (omega arith) c.in_ok-six.ensures refl (omega arith)

pub returns-in_default-kind-clause-scratch_after : goal.returns-in_default-kind-clause-scratch_after
returns-in_default-kind-clause-scratch_after c = other-line _ (omega arith) (omega arith) (λ e. omega (arith, e)) (λ e. omega (arith, e))
