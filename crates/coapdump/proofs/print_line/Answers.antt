use Rattle.std.proofs.Common.{ap, ◌∙◌}
use Rattle.pieces.proofs.Puts.{put_then, put_as}
use Rattle.hex_line.specs.Line.{is_unread}
use Rattle.message_text.specs.Text.{reason_text}
use Rattle.coapdump.specs.Lines.{said_of}
use Rattle.coapdump.proofs.Lining.{put_first}
use Rattle.coapdump.proofs.print_line.Goals as goal

pub returns : goal.returns
unfolding said_of
returns c =
    let is = c.put_line-shown.ensures.hex_value in
    let said = put_as c.put_reason-last.ensures.put (ap (reason_text c.args.number) is) in
    record {
      unread_value = c.is_unread-unread.ensures ∙ ap is_unread is;
      says = put_first (put_then c.put_line-shown.ensures.put said);
    }
