use Rattle.std.proofs.Common.{arith, sym, ◌∙◌}
use borrow.Author.Tests.{eqb-true, eqb-false}
use Rattle.pieces.proofs.Puts.{put-none, put_then, put_as}
use Rattle.message_measure.proofs.Heads.{payload-none, payload-some}
use Rattle.message_writer.proofs.put.payload.Goals as goal

pub returns-then-is_empty : goal.returns-then-is_empty
returns-then-is_empty c =
    put_as (put-none c.args.out.now c.args.at (omega arith)) (sym (payload-none _ (eqb-true _ 0 (sym c.is_empty.ensures ∙ c.if-is_empty.true))))

pub returns : goal.returns
returns c =
    put_as (put_then c.put_byte-next.ensures c.put.ensures) (sym (payload-some _ (eqb-false _ 0 (sym c.is_empty.ensures ∙ c.if-is_empty.false))))
