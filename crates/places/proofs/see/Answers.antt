use Rattle.std.proofs.Common.{◌≡◌, ◌∙◌, sym, ◌^◌, ◌<◌, ℕ}
use Rattle.entries.proofs.Cases.{live-as}
use Rattle.places.proofs.Looks.{seen-live, seen-expired, seen-free}
use Rattle.places.proofs.see.Goals as goal

few : {h n : ℕ} → n ≡ h → n < 2 ^ 34 → h < 2 ^ 34
few e h = rw (← e) h

pub returns-then-is_live : goal.returns-then-is_live
returns-then-is_live c =
    let found = c.entry_checked-checked.ensures in
    (seen-live _ _ _ c.args.seen _ _ _ _ found.0 found.1 (live-as _ _ _ _ (sym c.if-is_live.true ∙ c.is_live.ensures)), found.3, few found.1 found.2)

pub returns-then-e : goal.returns-then-e
returns-then-e c =
    let found = c.entry_checked-checked.ensures in (
      seen-expired _ _ _ c.args.seen _ _ _ _ found.0 found.1 _ (live-as _ _ _ _ (sym c.if-is_live.false ∙ c.is_live.ensures)) c.or-free.ensures c.if-e.true,
      found.3,
      few found.1 found.2,
    )

pub returns : goal.returns
returns c =
    let found = c.entry_checked-checked.ensures in (
      seen-free _ _ _ c.args.seen _ _ _ _ found.0 found.1 _ (live-as _ _ _ _ (sym c.if-is_live.false ∙ c.is_live.ensures)) c.or-free.ensures c.if-e.false,
      found.3,
      few found.1 found.2,
    )
