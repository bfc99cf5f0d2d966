use mathlib.Core.Path.{sym, ap}
use native.Mathlib.Omega.{arith}
use Rattle.pieces.proofs.Puts.{put-none, put_as}
use Rattle.message_text.specs.Text.{reason_text}
use Rattle.message_text.proofs.put_reason.Goals as goal

pub returns-in-Ok-clause-put : goal.returns-in-Ok-clause-put
returns-in-Ok-clause-put c = put_as (put-none _ _ (omega (arith, c.requires))) (ap (reason_text c.args.number) (sym c.in-Ok.is))
