use mathlib.Core.Path.{sym, ap}
use Rattle.pieces.proofs.Puts.{put_then, put_as}
use Rattle.message_text.specs.Text.{why_text}
use Rattle.message_text.proofs.put_why.Goals as goal

pub returns-in-NoDigit-clause-put : goal.returns-in-NoDigit-clause-put
returns-in-NoDigit-clause-put c =
    let p = put_then c.put_because-k.ensures.put (put_then c.put_decimal-k.ensures.put c.put.ensures) in
    put_as p (ap (why_text c.args.number) (sym c.in-NoDigit.is))
