use native.Mathlib.Omega.{arith}
use Rattle.pieces.proofs.Puts.{put-none, put_then}
use Rattle.ending.specs.Ending.{sentence}
use Rattle.ending.proofs.put_sentence.Goals as goal

pub returns-then-not-failed : goal.returns-then-not-failed
unfolding sentence
returns-then-not-failed c = record { put = rw c.if-not-failed.true (put-none _ _ (omega (arith, c.requires))); upper_bound = omega arith }

pub returns : goal.returns
unfolding sentence
returns c = record { put = rw c.if-not-failed.false (put_then c.put-k.ensures c.put.ensures); upper_bound = omega (arith, c.put-k.ensures.to, c.put.ensures.to) }
