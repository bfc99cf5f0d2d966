use Rattle.std.proofs.Common.{ap, rules}
use Rattle.script_text.specs.Text.{decimal}
use Rattle.pieces.proofs.Puts.{put_then, put_as}
use Rattle.state_text.specs.State.{numbers_text}
use Rattle.state_text.proofs.put_numbers.Goals as goal

pub returns : goal.returns
unfolding numbers_text
returns c =
    let figure = put_as c.put_decimal-k-3.ensures.put (ap decimal c.bytes_held-held.ensures) in
    let after-word = put_then c.put_decimal-k-2.ensures.put (put_then c.put_byte-k.ensures (put_then figure c.put_byte.ensures)) in
    record { put = put_then c.put_decimal-k.ensures.put (put_then c.put-k.ensures after-word); upper_bound = search rules }
