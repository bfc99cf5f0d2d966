use mathlib.Core.Path.{sym, ◌∙◌}
use Rattle.keys.proofs.Keys.{named-key}
use Rattle.judge.proofs.Judged.{at_place, verdict-seen}
use Rattle.call.proofs.Meanings.{call_by, response-ok, refusal}
use Rattle.response_call.proofs.response_change.Goals as goal

pub response_at-requires : goal.response_at-requires
response_at-requires c =
    let name = c.named-named.ensures in
    let sees = c.look-sight.ensures _ name in
    let placed = sym (c.judge.ensures ∙ verdict-seen _ _ _ _ _ _ sees) ∙ c.in-Ok.is in
    (_, _, _, (named-key _ _ name (at_place _ _ _ _ _ _ placed).named, (sees, placed)))

pub returns-in-Err : goal.returns-in-Err
returns-in-Err c =
    let sees = c.look-sight.ensures _ c.named-named.ensures in
    rw c.refused.ensures
    (refusal _ _ _ _ _ _ sees ∙ call_by _ _ _ _ _ _ (response-ok _) _ _ (c.judge.ensures ∙ verdict-seen _ _ _ _ _ _ sees) c.in-Err.is)

pub returns-in-Ok : goal.returns-in-Ok
returns-in-Ok c =
    let name = c.named-named.ensures in
    let sees = c.look-sight.ensures _ name in
    let is = c.judge.ensures ∙ verdict-seen _ _ _ _ _ _ sees in
    let placed = sym is ∙ c.in-Ok.is in
    let own = named-key _ _ name (at_place _ _ _ _ _ _ placed).named in
    c.response_at.ensures _ _ _ (own, (sees, placed)) c.args.upload.now ∙ call_by _ _ _ _ _ _ (response-ok _) _ _ is c.in-Ok.is
