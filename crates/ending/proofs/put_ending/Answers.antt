use native.Mathlib.Omega.{arith}
use Rattle.pieces.proofs.Puts.{put_then}
use Rattle.ending.specs.Ending.{ending_text}
use Rattle.ending.proofs.put_ending.Goals as goal

pub returns : goal.returns
unfolding ending_text
returns c =
    record {
      put = put_then c.put_sentence-k.ensures.put (put_then c.put_sentence-l.ensures.put c.put_unread.ensures.put);
      upper_bound =
          omega (
            arith,
            c.requires,
            c.put_sentence-k.ensures.upper_bound,
            c.put_sentence-l.ensures.upper_bound,
            c.put_unread.ensures.upper_bound,
          );
    }
