use mathlib.Core.Path.{sym, ap, ◌∙◌}
use native.Mathlib.Omega.{arith}
use Rattle.negotiation.specs.Negotiation.{reply_of}
use Rattle.negotiation.proofs.Laws.{no_room_lem, with-room, absent-fits, absent-large, given-at}
use Rattle.negotiation.proofs.negotiate_block_size_if_necessary.Goals as goal

pub returns-then-config-lt-BLOCK_OPTIONS_MAX_LENGTH : goal.returns-then-config-lt-BLOCK_OPTIONS_MAX_LENGTH
returns-then-config-lt-BLOCK_OPTIONS_MAX_LENGTH c = sym (no_room_lem _ _ _ _ (omega arith))

pub returns-then-room-bare : goal.returns-then-room-bare
returns-then-room-bare c = sym (no_room_lem _ _ _ _ (omega arith))

pub returns-in-Some : goal.returns-in-Some
returns-in-Some c = c.reply_to.ensures ∙ sym (with-room _ _ _ _ _ (omega arith) (omega arith) ∙ given-at _ _ _ _ _ c.in-Some.is)

pub returns-then-total_payload_size-max_block_size : goal.returns-then-total_payload_size-max_block_size
returns-then-total_payload_size-max_block_size c =
    sym (with-room _ _ _ _ _ (omega arith) (omega arith) ∙ absent-fits _ _ _ _ c.in_default.is c.if-total_payload_size-max_block_size.true)

pub returns : goal.returns
returns c =
    c.reply_of.ensures ∙ ap reply_of c.make.ensures
    ∙ sym (with-room _ _ _ _ _ (omega arith) (omega arith) ∙ absent-large _ _ _ _ c.in_default.is c.if-total_payload_size-max_block_size.false)
