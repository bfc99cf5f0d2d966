use native.Mathlib.Omega.{arith}
use Rattle.pieces.proofs.Puts.{put_as, put_then}
use Rattle.answer_text.specs.Answer.{line_text}
use Rattle.answer_text.proofs.put_answer.Goals as goal

pub returns : goal.returns
unfolding line_text
returns c =
    let line = put_then c.put_blocks-k.ensures.put (put_then c.put_bytes-k.ensures.put c.put_byte.ensures) in
    record {
      put = put_as (put_then c.put_decimal-k.ensures.put (put_then c.put_byte-k.ensures (put_then c.put_name-k.ensures.put line)))
          (rw c.said-s.ensures);
      upper_bound = omega (
        arith,
        c.put_decimal-k.ensures.upper_bound,
        c.put_byte-k.ensures.to,
        c.put_name-k.ensures.upper_bound,
        c.put_blocks-k.ensures.upper_bound,
        c.put_bytes-k.ensures.upper_bound,
        c.put_byte.ensures.to,
      );
    }
