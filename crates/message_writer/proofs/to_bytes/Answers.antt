use Rattle.std.proofs.Common.{arith, rules, sym, ◌∙◌}
use Rattle.pieces.proofs.Puts.{put_then, put-length}
use Rattle.message_measure.specs.Given.{given}
use Rattle.message_measure.proofs.Taken.{taken}
use Rattle.message_writer.proofs.Writings.{opening-length, writes-taken, writes-refused}
use Rattle.message_writer.proofs.to_bytes.Goals as goal

-- In each: what the measure answered.
pub head-at-requires : goal.head-at-requires
head-at-requires c =
    let t = taken _ (given _ _ c.args.message_id _ _ _ _ _) (sym (c.takes.ensures _ (omega arith)) ∙ c.if-not-takes.false) in
    search rules

pub options-at-requires : goal.options-at-requires
options-at-requires c =
    let t = taken _ (given _ _ c.args.message_id _ _ _ _ _) (sym (c.takes.ensures _ (omega arith)) ∙ c.if-not-takes.false) in
    let n = opening-length c.args.message_type c.args.code c.args.message_id c.args.token.now in
    record {
      values_value = t.described;
      values_value_2 = t.ok;
      values_in_bounds = omega (arith, t.small, c.head-at.ensures.to, put-length c.head-at.ensures);
    }

pub payload-requires : goal.payload-requires
payload-requires c =
    let t = taken _ (given _ _ c.args.message_id _ _ _ _ _) (sym (c.takes.ensures _ (omega arith)) ∙ c.if-not-takes.false) in
    let n = opening-length c.args.message_type c.args.code c.args.message_id c.args.token.now in
    omega (
      arith,
      t.small,
      c.head-at.ensures.to,
      put-length c.head-at.ensures,
      c.options-at.ensures.to,
      put-length c.options-at.ensures,
    )

pub returns : goal.returns
returns c =
    writes-taken _ (given _ _ c.args.message_id _ _ _ _ _) _ _ (sym (c.takes.ensures _ (omega arith)) ∙ c.if-not-takes.false)
    (put_then c.head-at.ensures (put_then c.options-at.ensures c.payload.ensures))

pub returns-then-not-takes : goal.returns-then-not-takes
returns-then-not-takes c =
    writes-refused _ (given _ _ c.args.message_id _ _ _ _ _) (c.takes.ensures _ (omega arith)) c.if-not-takes.true
