use native.Mathlib.Omega.{arith}
use Rattle.pieces.proofs.Puts.{put_then}
use Rattle.answer_text.specs.Answer.{unreadable_text}
use Rattle.answer_text.proofs.put_unreadable.Goals as goal

pub returns : goal.returns
unfolding unreadable_text
returns c = record { put = put_then c.put_decimal-k.ensures.put c.put.ensures; upper_bound = omega (arith, c.put_decimal-k.ensures.upper_bound, c.put.ensures.to) }
