use Rattle.pieces.proofs.Puts.{put_as, put_then}
use Rattle.answer_text.proofs.put_name.Goals as goal

pub returns-in-Refused-clause-put : goal.returns-in-Refused-clause-put
returns-in-Refused-clause-put c = put_as (put_then c.put-k.ensures c.put_decimal.ensures.put) (rw (c.in-Refused.is, c.from.ensures))
