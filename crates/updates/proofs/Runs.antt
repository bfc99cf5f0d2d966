-- ANY NUMBER OF CALLS AND UPDATES: the updates are not seen, and demand 3 holds across them. Assumes nothing.
use mathlib.Core.Bool.{true}
use mathlib.Core.Path.{◌≡◌, sym}
use mathlib.Core.List.{List, ◌∷◌}
use Rattle.config.specs.declared.Config.{Config}
use Rattle.keys.specs.Keys.{Name}
use Rattle.call.specs.Call.{World, Call, Done, call}
use Rattle.call.proofs.Frame.{world-fits, call_fits}
use Rattle.one_call.specs.Handler.{Handler}
use Rattle.demands.specs.Demand3.{Sent, call_on, AllBytes, Within}
use Rattle.demands.specs.Compiled.{KeepsContract}
use Rattle.demands.proofs.Compiled.{of-all-that-keep}
use Rattle.alike.specs.Alike.{InLimits, Alike, SameRuns, Across, NotSeen, Demand3Across, MissionAcross}
use Rattle.alike.specs.Alike as alike
use Rattle.alike.proofs.Calls.{in-limits-fits, fits-in-limits}
use Rattle.alike.proofs.Runs.{same_runs, not_seen, demand3-across, mission-across}
use Rattle.image_reader.specs.Load.{fresh_ok}
use Rattle.updates.specs.Updates.{Typed, moved, SavedLoads, SameAfterLoad, Updated, ends, called, updated, AllTimes, UpdatesNotSeen, Demand3Updated, MissionUpdated}
use Rattle.updates.proofs.Carried.{saved-loads}
use Rattle.updates.proofs.Typed.{typed-kept}

moved-alike : (c : Config) (w x : World) → InLimits c w → Typed w → fresh_ok c x ≡ true → Alike c w (moved c w x)
unfolding SavedLoads
moved-alike c w x inside t fresh = (saved-loads c w x inside t fresh).1.alike

-- THE SAME ANSWERS
pub same-after-load : SameAfterLoad call
unfolding SameAfterLoad SameRuns
same-after-load c w x l inside t fresh bytes = sym (same_runs c w (moved c w x) l (moved-alike c w x inside t fresh) bytes).0

-- so it is of whatever keeps the contracts
pub kept-same-after-load : (h : Handler) → KeepsContract h → SameAfterLoad h
kept-same-after-load = of-all-that-keep SameAfterLoad same-after-load

-- an update is an exchange
updated-across : (c : Config) (w : World) (l : List Call) (results : List Done) → InLimits c w → Typed w → AllBytes l → AllTimes l → Updated c w l results → Across c w l results
updated-across c w l results inside t b h ends = alike.ends
updated-across c w l results inside t b h (called {q = q} {d = d} {rest = rest} {results = others} m r) =
    let e : d ≡ call c w q = m in
    alike.called m
    (updated-across c d.world rest others (rw e (fits-in-limits c (call c w q).world (call_fits c w q b.0 (in-limits-fits c w inside))))
    (rw e (typed-kept.called c w q inside t h.0)) b.1 h.1 r)
updated-across c w l results inside t b h (updated x fresh r) =
    let a : Alike c w (moved c w x) = moved-alike c w x inside t fresh in
    alike.exchanged a (updated-across c (moved c w x) l results a.right (typed-kept.moved c w x inside t fresh) b h r)

pub updates-not-seen : UpdatesNotSeen
unfolding UpdatesNotSeen NotSeen
updates-not-seen c w l results inside t b h r = not_seen c w l results b (updated-across c w l results inside t b h r)

-- ---- demand 3

first-inside : (c : Config) (w : World) (k : Name) (first : Sent) (later : List Call) → Within c w k first later → InLimits c w
first-inside c w k first later g = fits-in-limits c w (world-fits c w (call_on k first) g.limits g.sixteen)

-- DEMAND 3 ACROSS UPDATES
pub demand3-updated : Demand3Updated
unfolding Demand3Updated Demand3Across
demand3-updated c w k x first rest later results b g t h r =
    demand3-across c w k x first rest later results b g
    (updated-across c w (call_on k first ∷ later) results (first-inside c w k first later g.within) t g.within.bytes h r)

pub mission-updated : MissionUpdated
unfolding MissionUpdated MissionAcross
mission-updated c w k x first rest later results b g t h r =
    mission-across c w k x first rest later results b g
    (updated-across c w (call_on k first ∷ later) results (first-inside c w k first later g.within) t g.within.bytes h r)
