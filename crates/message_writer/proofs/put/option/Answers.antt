use Rattle.pieces.proofs.Puts.{put_then}
use Rattle.message_writer.proofs.put.option.Goals as goal

pub returns : goal.returns
returns c = put_then c.option_head-next.ensures c.put.ensures
