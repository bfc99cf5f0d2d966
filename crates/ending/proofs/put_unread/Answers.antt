use native.Mathlib.Omega.{arith}
use borrow.Author.Tests.{eq-eqb, ne_eqb}
use Rattle.pieces.proofs.Puts.{put-none, put_then}
use Rattle.ending.specs.Ending.{unread_text}
use Rattle.ending.proofs.put_unread.Goals as goal

pub returns-then-unread-eq0 : goal.returns-then-unread-eq0
unfolding unread_text
returns-then-unread-eq0 c =
    record { put = rw (eq-eqb c.args.unread 0 c.if-unread-eq0.true) (put-none _ _ (omega (arith, c.requires))); upper_bound = omega arith }

pub returns : goal.returns
unfolding unread_text
returns c =
    record {
      put =
          rw (ne_eqb c.args.unread 0 c.if-unread-eq0.false)
          (put_then c.put-k.ensures (put_then c.put-number.ensures (put_then c.put_decimal-end.ensures.put c.put_byte.ensures)));
      upper_bound = omega (arith, c.put-k.ensures.to, c.put-number.ensures.to, c.put_decimal-end.ensures.upper_bound, c.put_byte.ensures.to);
    }
