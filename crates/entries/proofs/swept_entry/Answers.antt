use mathlib.Core.Path.{sym, ◌∙◌}
use Rattle.entries.proofs.Cases.{live-as}
use Rattle.entries.proofs.Entries.{swept-live, swept-dead}
use Rattle.entries.proofs.swept_entry.Goals as goal

pub returns-then-is_live : goal.returns-then-is_live
returns-then-is_live c = sym (swept-live _ _ _ (live-as _ _ _ _ (sym c.if-is_live.true ∙ c.is_live.ensures)))

pub returns : goal.returns
returns c =
    let dead = live-as _ _ _ _ (sym c.if-is_live.false ∙ c.is_live.ensures) in
    c.free_entry.ensures ∙ sym (swept-dead _ _ _ dead)
