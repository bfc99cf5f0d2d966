use Rattle.pieces.proofs.Puts.{put_as, put_then}
use Rattle.script_text.specs.Text.{block_text}
use Rattle.script_text.proofs.put_block.Goals as goal

pub returns-clause-put : goal.returns-clause-put
unfolding block_text
returns-clause-put c =
    let put = put_then c.put_decimal-k.ensures.put (put_then c.put-k.ensures c.put_decimal.ensures.put) in
    put_as put (rw (c.digit_of.ensures, c.size.ensures, c.from.ensures))
