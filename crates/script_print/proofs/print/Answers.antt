use Rattle.std.proofs.Common.{ℕ, List, length, refl, ap, arith, rules}
use Rattle.pieces.proofs.Puts.{put_as}
use Rattle.answer_text.specs.Answer.{answer_text}
use Rattle.answer_text.proofs.Showing.{shown-short}
use Rattle.buffers.specs.Sizes.{memory_size}
use Rattle.script_print.proofs.print.Goals as goal

pub put_answer-at-requires : goal.put_answer-at-requires
put_answer-at-requires c =
    let short = shown-short c.args.answer c.args.payload.now c.args.upload.now c.args.response.now memory_size c.requires.payload_len_bound.0 c.requires.payload_len_bound.1 c.requires.payload_len_bound.2 in
    omega (arith, ap length c.shown-bytes.ensures, short, c.requires.line_room_in_bounds)

pub returns : goal.returns
returns c =
    let short = shown-short c.args.answer c.args.payload.now c.args.upload.now c.args.response.now memory_size c.requires.payload_len_bound.0 c.requires.payload_len_bound.1 c.requires.payload_len_bound.2 in
    let shown = c.shown-bytes.ensures in
    record { state_value = refl; put = put_as c.put_answer-at.ensures.put (ap (λ (b : List ℕ). answer_text c.args.step.state.number c.args.answer b) shown); at_bound = omega (arith, ap length shown, short, c.put_answer-at.ensures.upper_bound); written_value = refl }
