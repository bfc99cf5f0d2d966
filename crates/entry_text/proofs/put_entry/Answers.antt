use Rattle.pieces.proofs.Puts.{put_then}
use Rattle.entry_text.specs.Entry.{entry_text}
use borrow.Author.Rules.{rules}
use Rattle.entry_text.proofs.put_entry.Goals as goal

pub returns : goal.returns
unfolding entry_text
returns c = record { put = put_then c.put_who-k.ensures.put (put_then c.put_byte-k.ensures c.put_what.ensures.put); upper_bound = search rules }
