use Rattle.std.proofs.Common.{rules}
use Rattle.pieces.proofs.Puts.{put_then, put_as}
use Rattle.message_format.specs.Format.{head_bytes}
use Rattle.message_writer.specs.Writer.{opening}
use Rattle.message_writer.proofs.put.head.Goals as goal

pub returns : goal.returns
unfolding opening head_bytes
returns c =
    let p = put_then c.put-at.ensures (put_then c.put-at-2.ensures c.put.ensures) in
    put_as p (rw c.to_be_bytes.ensures (search rules))
