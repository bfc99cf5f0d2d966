use mathlib.Core.Path.{◌∙◌}
use native.Mathlib.Omega.{arith}
use Rattle.runner.proofs.Lining.{put-waits, rest_of, script-done}
use borrow.Author.Rules.{rules}
use Rattle.blockscript.proofs.run_script.Goals as goal

pub run_last-requires : goal.run_last-requires
run_last-requires c =
    let kept = c.run_lines-rest.auto in
    record {
      lent = record {
        upload = omega (arith, c.requires.upload, kept);
        response = omega (arith, c.requires.response, kept);
        fields = omega (arith, c.requires.fields, kept);
        output = omega (arith, c.requires.output, kept, c.start-first.auto);
      };
      at_le_much = c.run_lines-rest.ensures.at_le_much_2.0;
    }

pub shape_of-out : goal.shape_of-out
shape_of-out c = omega (arith, c.run_last.auto, c.run_lines-rest.auto, c.start-first.auto)

pub returns : goal.returns
returns c =
    let done = script-done c.start-first.result.state c.args.upload.now c.args.response.now c.args.text.now _ _ _ _ _ _
    c.start-first.ensures.state_value
    (put-waits c.start-first.ensures.put) c.run_lines-rest.ensures.response_after c.run_lines-rest.ensures.out_after (rest_of c.args.text.now c.run_lines-rest.result.from ∙ c.run_lines-rest.ensures.from_in_bounds.1) c.run_last.ensures.response_after
    (put-waits c.run_last.ensures.put) in
    record { response_after = done.0; out_after = done.1; at_le_output_size = c.run_last.ensures.at_le_output_size.0 }
