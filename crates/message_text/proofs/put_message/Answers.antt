use mathlib.Core.Path.{sym}
use Rattle.pieces.proofs.Puts.{put_then, put_as}
use Rattle.message_text.specs.Text.{refused_text}
use Rattle.parts_text.proofs.Places.{read-tells}
use Rattle.message_text.proofs.Lines.{refused-line, message-line}
use Rattle.message_text.proofs.put_message.Goals as goal

pub returns-in_default-clause-put : goal.returns-in_default-clause-put
unfolding refused_text
returns-in_default-clause-put c =
    put_as c.put_verdict.ensures.put (refused-line c.args.number c.args.message.now _ (sym c.in_default.ensures))

pub returns-clause-put : goal.returns-clause-put
returns-clause-put c =
    let x = read-tells c.args.message.now c.in-Ok.packet (sym c.in-Ok.ensures) in
    let p = put_then c.put_head-k.ensures.put (c.put_parts.ensures.put x.0 x.1.means-it) in
    put_as p (message-line c.args.number c.args.message.now c.in-Ok.packet x.0 x.1)
