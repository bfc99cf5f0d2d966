use Rattle.std.proofs.Common.{rules, le-ltb, lt-ltb}
use borrow.Author.Tests.{not-true, not-false}
use Rattle.pieces.proofs.Puts.{put_then, put_as, put-none}
use Rattle.state_text.specs.State.{next_text}
use Rattle.state_text.proofs.put_next.Goals as goal

pub returns-then-not-e : goal.returns-then-not-e
unfolding next_text
returns-then-not-e c = record { put = put_as (put-none _ _ (search rules)) (rw (not-true c.args.e.used c.if-not-e.true)); upper_bound = search rules }

pub returns-then-base-at : goal.returns-then-base-at
unfolding next_text
returns-then-base-at c =
    record {
      put = put_as (put_then c.put_byte-k.ensures c.put_entry.ensures.put)
          (rw (not-false c.args.e.used c.if-not-e.false, lt-ltb c.args.base c.args.at c.if-base-at.true));
      upper_bound = search rules;
    }

pub returns : goal.returns
unfolding next_text
returns c =
    record {
      put = put_as c.put_entry-2.ensures.put
          (rw (not-false c.args.e.used c.if-not-e.false, le-ltb c.args.base c.args.at c.if-base-at.false));
      upper_bound = search rules;
    }
