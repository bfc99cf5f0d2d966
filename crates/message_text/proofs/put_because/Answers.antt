use Rattle.pieces.proofs.Puts.{put_then}
use Rattle.message_text.specs.Text.{because}
use Rattle.message_text.proofs.put_because.Goals as goal

pub returns-clause-put : goal.returns-clause-put
unfolding because
returns-clause-put c = put_then c.put-k.ensures c.put_verdict.ensures.put
