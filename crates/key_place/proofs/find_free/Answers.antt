use Rattle.std.proofs.Common.{sym, ap, not, ◌∙◌, rules}
use Rattle.entries.specs.Quick.{not_live}
use Rattle.keys.proofs.Turns.{find-go, find-here}
use Rattle.entries.proofs.Cases.{live-as}
use Rattle.entries.proofs.Turns.{nil}
use Rattle.key_place.proofs.Unswept.{row_index-here}
use Rattle.key_place.proofs.find_free.Goals as goal

pub returns-then-not-is_live : goal.returns-then-not-is_live
returns-then-not-is_live c =
    let gone = live-as _ _ _ _ (sym c.if-not-is_live.true ∙ c.is_live.ensures) in
    row_index-here (find-here (not_live c.args.lifetime c.args.time) c.args.entries c.loop-at.at nil _ (search rules) (ap not gone) c.loop-at.invariant) (search rules)

pub loop-at-preserved : goal.loop-at-preserved
loop-at-preserved c =
    let kept = live-as _ _ _ _ (sym c.if-not-is_live.false ∙ c.is_live.ensures) in
    find-go (not_live c.args.lifetime c.args.time) c.args.entries c.loop-at.at nil _ (search rules) (ap not kept) c.loop-at.invariant
