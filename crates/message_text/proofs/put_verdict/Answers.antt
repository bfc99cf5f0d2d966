use Rattle.pieces.proofs.Puts.{put_then}
use Rattle.message_text.proofs.put_verdict.Goals as goal

pub returns-clause-put : goal.returns-clause-put
returns-clause-put c = put_then c.put_decimal-k.ensures.put c.put.ensures
