use Rattle.std.proofs.Common.{arith, sym, ap, ◌∙◌}
use Rattle.std.specs.Prelude.{Ok}
use Rattle.std.proofs.lemmas.Result.{err_from_is_err_and}
use Rattle.message.proofs.Messages.{rest-length, read_short, read_head, token-there, read-bad, left-within, read_taken}
use Rattle.message.proofs.from_bytes.Goals as goal

pub returns-in_default : goal.returns-in_default
returns-in_default c = read_short _ (omega arith)

pub returns-then-not-head_ok : goal.returns-then-not-head_ok
returns-then-not-head_ok c = read_head _ (omega arith) _ (rest-length _) (sym c.head_ok.ensures ∙ c.if-not-head_ok.true)

pub options_end-requires : goal.options_end-requires
options_end-requires c =
    let ok = sym c.head_ok.ensures ∙ c.if-not-head_ok.false in
    omega (arith, c.from.ensures, token-there c.args.message.now (omega arith) _ (rest-length _) ok)

pub returns-in_err-left : goal.returns-in_err-left
returns-in_err-left c =
    let p = err_from_is_err_and c.from_residual.result c.from_residual.ensures.1 in
    let ok = sym c.head_ok.ensures ∙ c.if-not-head_ok.false in
    rw p.1 (read-bad _ (omega arith) _ (rest-length _) ok _ c.from.ensures _ c.options_end.ensures c.in_err-left.was)

pub packet_with-requires : goal.packet_with-requires
packet_with-requires c =
    let ok = sym c.head_ok.ensures ∙ c.if-not-head_ok.false in
    (omega arith, left-within c.args.message.now (omega arith) _ (rest-length _) ok _ c.from.ensures _ c.options_end.ensures _ c.in_ok-left.was)

pub returns : goal.returns
returns c =
    let ok = sym c.head_ok.ensures ∙ c.if-not-head_ok.false in
    ap Ok c.packet_with.ensures
    ∙ read_taken _ (omega arith) _ (rest-length _) ok _ c.from.ensures _ c.options_end.ensures _ c.in_ok-left.was
