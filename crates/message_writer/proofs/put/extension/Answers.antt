use Rattle.std.proofs.Common.{arith, sym}
use Rattle.pieces.proofs.Puts.{put-none, put_as}
use Rattle.message_measure.proofs.Heads.{extension-0}
use Rattle.message_writer.proofs.put.extension.Goals as goal

pub returns-in-0-to-12 : goal.returns-in-0-to-12
returns-in-0-to-12 c = put_as (put-none c.args.out.now c.args.at (omega arith)) (sym (extension-0 _ (omega arith)))
