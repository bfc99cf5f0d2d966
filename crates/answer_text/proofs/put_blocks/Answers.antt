use native.Mathlib.Omega.{arith}
use Rattle.pieces.proofs.Puts.{put_then}
use Rattle.answer_text.specs.Answer.{blocks_text}
use Rattle.answer_text.proofs.put_blocks.Goals as goal

pub returns : goal.returns
unfolding blocks_text
returns c =
    let last = put_then c.put_maybe-k-2.ensures.put c.put_byte.ensures in
    record {
      put = put_then c.put_byte-k.ensures (put_then c.put_maybe-k.ensures.put (put_then c.put_byte-k-2.ensures last));
      upper_bound =
          omega (arith, c.put_byte-k.ensures.to, c.put_maybe-k.ensures.upper_bound, c.put_byte-k-2.ensures.to, c.put_maybe-k-2.ensures.upper_bound, c.put_byte.ensures.to);
    }
