use Rattle.keys.specs.Keys.{key_of}
use Rattle.pieces.proofs.Puts.{put_then, put_as}
use Rattle.entry_text.specs.Entry.{who_text}
use borrow.Author.Rules.{rules}
use Rattle.entry_text.proofs.put_who.Goals as goal

pub returns : goal.returns
unfolding who_text key_of
returns c =
    let rest = put_then c.put_key-k.ensures.put (put_then c.put_byte-k-2.ensures c.put_decimal.ensures.put) in
    record { put = put_as (put_then c.put_decimal-k.ensures.put (put_then c.put_byte-k.ensures rest)) (rw c.from.ensures); upper_bound = search rules }
