use Rattle.pieces.proofs.Puts.{put_as, put_then}
use Rattle.entry_text.specs.Entry.{what_text}
use borrow.Author.Rules.{rules}
use Rattle.entry_text.proofs.put_what.Goals as goal

pub returns : goal.returns
unfolding what_text
returns c =
    let cache = put_then c.put_cached-k.ensures.put (put_then c.put_byte-k-2.ensures c.put_maybe.ensures.put) in
    record { put = put_as (put_then c.put_pair-k.ensures.put (put_then c.put_byte-k.ensures cache)) (rw (c.from.ensures, c.from-2.ensures, c.recorded_block.ensures)); upper_bound = search rules }
