use Rattle.pieces.proofs.Puts.{put_then, put_as}
use Rattle.message_measure.proofs.Heads.{head-is}
use Rattle.message_writer.proofs.put.option_head.Goals as goal

pub returns : goal.returns
returns c =
    put_as (put_then c.put_byte-next.ensures (put_then c.extension-next.ensures c.extension.ensures))
    (head-is _ _ _ _ c.nibble_of.ensures.0 c.nibble_of-2.ensures.0)
