use borrow.Author.Rules.{rules}
use Rattle.pieces.proofs.Puts.{put_then}
use Rattle.parts_text.proofs.put_closed.Goals as goal

pub returns : goal.returns
returns c = record { put = put_then c.put_shown-k.ensures.put c.put_byte.ensures; upper_bound = search rules }
