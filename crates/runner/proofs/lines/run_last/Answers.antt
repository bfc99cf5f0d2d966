use mathlib.Core.Path.{refl, ap, ◌∙◌}
use native.Mathlib.Omega.{arith}
use Rattle.pieces.proofs.Puts.{put-none, put_as}
use Rattle.script_state.specs.declared.Step.{Step}
use Rattle.runner.specs.Lines.{standing}
use Rattle.runner.proofs.Lining.{stands, none_last, some-last}
use borrow.Author.Rules.{rules}
use Rattle.runner.proofs.lines.run_last.Goals as goal

pub returns-then-text-eq0 : goal.returns-then-text-eq0
returns-then-text-eq0 c =
    let none = none_last c.args.replay (standing c.args.step.state c.args.upload.now c.args.response.now) c.args.text.now c.if-text-eq0.true in
    record { response_after = none.0; put = put_as (put-none _ _ (omega (arith, c.requires.lent.output, c.requires.at_le_much))) none.1; at_le_output_size = (omega (arith, c.requires.at_le_much), refl) }

pub run_any-requires : goal.run_any-requires
run_any-requires c = record { lent = c.requires.lent; at_le_much = omega (arith, ap (λ (x : Step). x.at) c.counted-next.ensures, c.requires.at_le_much) }

pub returns : goal.returns
returns c =
    let stood = standing c.args.step.state c.args.upload.now c.args.response.now in
    let left = rw c.counted-next.ensures at c.run_any.ensures in
    let some = some-last c.args.replay stood c.args.text.now c.if-text-eq0.false in
    record { response_after = stands c.args.replay stood c.args.text.now left refl refl ∙ some.0; put = put_as left.text some.1; at_le_output_size = (omega (arith, left.room, c.requires.at_le_much), left.written) }
