use Rattle.pieces.proofs.Puts.{put_then}
use Rattle.entry_text.specs.Entry.{pair_text}
use borrow.Author.Rules.{rules}
use Rattle.entry_text.proofs.put_pair.Goals as goal

pub returns : goal.returns
unfolding pair_text
returns c = record { put = put_then c.put_decimal-k.ensures.put (put_then c.put_byte-k.ensures c.put_decimal.ensures.put); upper_bound = search rules }
