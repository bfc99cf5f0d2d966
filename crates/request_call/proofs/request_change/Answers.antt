use mathlib.Core.Path.{refl, sym, ◌∙◌}
use lib.ListN.{length}
use Rattle.keys.proofs.Keys.{named-key}
use Rattle.judge.proofs.Judged.{at_place, verdict-seen}
use Rattle.call.specs.Contract.{request_call}
use Rattle.call.proofs.Meanings.{call_by, request-ok, refusal, asked_is}
use Rattle.request_call.proofs.request_change.Goals as goal

pub request_at-requires : goal.request_at-requires
request_at-requires c =
    let name = c.named-named.ensures in
    let sees = c.look-sight.ensures _ name in
    let placed = sym (c.judge.ensures ∙ verdict-seen _ _ _ _ _ _ sees) ∙ c.in-Ok.is in
    rw c.read_options-asked.ensures (_, _, _, (named-key _ _ name (at_place _ _ _ _ _ _ placed).named, (sees, placed)))

pub returns-in-Err : goal.returns-in-Err
returns-in-Err c =
    let sees = c.look-sight.ensures _ c.named-named.ensures in
    rw c.refused.ensures
    (refusal _ _ _ _ _ _ sees ∙ call_by _ _ _ _ _ _ (request-ok _) _ _ (c.judge.ensures ∙ verdict-seen _ _ _ _ _ _ sees) c.in-Err.is)

pub returns-in-Ok : goal.returns-in-Ok
returns-in-Ok c =
    let name = c.named-named.ensures in
    let sees = c.look-sight.ensures _ name in
    let is = c.judge.ensures ∙ verdict-seen _ _ _ _ _ _ sees in
    let placed = sym is ∙ c.in-Ok.is in
    let asked = c.read_options-asked.ensures in
    let own = named-key _ _ name (at_place _ _ _ _ _ _ placed).named in
    let q = request_call c.args.numbers c.args.key.now c.args.block1.now c.args.block2.now c.args.payload.now in
    rw asked at (c.request_at.ensures c.args.key.now (length c.args.response.now) c.args.table (rw asked (own, (sees, placed))) c.args.response.now)
    ∙ asked_is _ _ _ _ _ c.args.numbers c.args.block1.now c.args.block2.now c.args.payload.now _ refl
    ∙ call_by _ _ q _ _ _ (request-ok _) _ _ is c.in-Ok.is
