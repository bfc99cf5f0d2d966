use mathlib.Core.Path.{sym, ap, ◌∙◌}
use native.Mathlib.Omega.{arith}
use Rattle.entries.specs.Held.{held_by}
use Rattle.entries.proofs.Cases.{live-as}
use Rattle.entries.proofs.Entries.{swept-live, swept-dead}
use Rattle.entries.proofs.Held.{free-holds}
use Rattle.places.proofs.kept_by.Goals as goal

pub returns-then-is_live : goal.returns-then-is_live
returns-then-is_live c =
    let kept = swept-live _ _ _ (live-as _ _ _ _ (sym c.if-is_live.true ∙ c.is_live.ensures)) in
    (c.held_by.ensures.0 ∙ ap held_by (sym kept), c.held_by.ensures.1)

pub returns : goal.returns
returns c =
    let freed = swept-dead _ _ _ (live-as _ _ _ _ (sym c.if-is_live.false ∙ c.is_live.ensures)) in
    (sym (ap held_by freed ∙ free-holds), omega arith)
