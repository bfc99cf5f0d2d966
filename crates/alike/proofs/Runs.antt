-- Any number of calls: two worlds that are alike are told the same; an exchange of one for the other is not seen, and so demand 3 holds across it. Assumes nothing.
use mathlib.Core.Path.{◌≡◌, refl, sym, ap, ap₂, ◌∙◌}
use mathlib.Core.List.{List, [], ◌∷◌, map}
use Rattle.pieces.proofs.Tests.{by_cases}
use Rattle.config.specs.declared.Config.{Config}
use Rattle.keys.specs.Keys.{Name}
use Rattle.call.specs.Call.{World, Call, Done, call}
use Rattle.one_call.specs.Handler.{Handler}
use Rattle.demands.specs.Demand3.{run, call_on, AllBytes, Demand3}
use Rattle.demands.specs.Clocks.{asks, run_on, Demand3Own}
use Rattle.demands.specs.Compiled.{seen_of, KeepsContract}
use Rattle.demands.proofs.Demand3.{demand3, demand3-own}
use Rattle.demands.proofs.Compiled.{of-all-that-keep}
use Rattle.alike.specs.Alike.{Equivalence, Told, told, SameAnswers, SameByContract, tells, SameRuns, Across, ends, called, exchanged, told_of, NotSeen}
use Rattle.alike.specs.Alike.{seen_asking, Demand3Across, MissionAcross}
use Rattle.alike.proofs.Calls.{same-answers}

-- ---- an equivalence

pub equivalence : Equivalence
equivalence =
    record {
      itself = λ c w i. record {
        left = i;
        right = i;
        clock = refl;
        lives = λ j. refl;
        same = λ j y. record { long = refl; key = refl; touched = refl; state = refl; assembled = refl; cached = refl };
      };
      back = λ c w v a. record {
        left = a.right;
        right = a.left;
        clock = sym a.clock;
        lives = λ j. sym (a.lives j);
        same = λ j y.
            let s = a.same j (a.lives j ∙ y) in
            record { long = sym s.long; key = sym s.key; touched = sym s.touched; state = sym s.state; assembled = sym s.assembled; cached = sym s.cached };
      };
      on = λ c w v x a b. record {
        left = a.left;
        right = b.right;
        clock = a.clock ∙ b.clock;
        lives = λ j. a.lives j ∙ b.lives j;
        same = λ j y.
            let s = a.same j y in
            let t = b.same j (sym (a.lives j) ∙ y) in
            record {
              long = s.long ∙ t.long;
              key = s.key ∙ t.key;
              touched = s.touched ∙ t.touched;
              state = s.state ∙ t.state;
              assembled = s.assembled ∙ t.assembled;
              cached = s.cached ∙ t.cached;
            };
      };
    }

-- ---- one call and many

pub same-by-contract : SameByContract
unfolding SameByContract SameAnswers
same-by-contract c w v w' v' q a b alike bytes m n = rw (← m, ← n) at (same-answers c w v q alike bytes)

pub same_runs : SameRuns call
unfolding SameRuns SameAnswers
same_runs c w v [] a b = (refl, a)
same_runs c w v (q ∷ rest) a b =
    let s = same-answers c w v q a b.0 in
    let t = same_runs c (call c w q).world (call c v q).world rest s.1 b.1 in
    (ap₂ ◌∷◌ s.0 t.0, t.1)

-- so it is of whatever keeps the contracts
pub kept-same-runs : (h : Handler) → KeepsContract h → SameRuns h
kept-same-runs = of-all-that-keep SameRuns same_runs

-- ---- exchanges are not seen

pub not_seen : NotSeen
unfolding NotSeen SameRuns
not_seen c w l results b ends = refl
not_seen c w l results b (called {q = q} {d = d} {rest = rest} {results = others} m r) =
    let e : d ≡ call c w q = m in
    rw (← e) (ap (λ (t : List Told). told q d ∷ t) (not_seen c d.world rest others b.1 r))
not_seen c w l results b (exchanged {v = v} a r) = not_seen c v l results b r ∙ sym (same_runs c w v l a b).0

-- what demand 3 sees is part of what is told
seen-told : (l : List Call) (results : List Done) → map (λ (t : Told). t.seen) (told_of l results) ≡ seen_of l results
seen-told [] results = refl
seen-told (q ∷ l) [] = refl
seen-told (q ∷ l) (d ∷ results) = rw (seen-told l results)

seen-run : (h : Handler) (c : Config) (w : World) (l : List Call) → map (λ (t : Told). t.seen) (tells h c w l) ≡ run h c w l
seen-run h c w [] = refl
seen-run h c w (q ∷ l) = rw (seen-run h c (h c w q).world l)

seen-across : (c : Config) (w : World) (l : List Call) (results : List Done) → AllBytes l → Across c w l results → seen_of l results ≡ run call c w l
unfolding NotSeen
seen-across c w l results b r = sym (seen-told l results) ∙ ap (map (λ (t : Told). t.seen)) (not_seen c w l results b r) ∙ seen-run call c w l

-- ---- demand 3

asking-run : (h : Handler) (c : Config) (k : Name) (w : World) (l : List Call) → seen_asking k l (run h c w l) ≡ run_on k h c w l
asking-run h c k w [] = refl
asking-run h c k w (q ∷ l) =
    let rest = asking-run h c k (h c w q).world l in
    by_cases (asks k q) (λ y. rw (y, rest)) (λ n. rw (n, rest))

-- DEMAND 3 ACROSS EXCHANGES
pub demand3-across : Demand3Across
unfolding Demand3Across Demand3Own
demand3-across c w k x first rest later results b g r =
    rw (seen-across c w (call_on k first ∷ later) results g.within.bytes r, asking-run call c k w (call_on k first ∷ later)) (demand3-own c w k x first rest later b g)

pub mission-across : MissionAcross
unfolding MissionAcross Demand3
mission-across c w k x first rest later results b g r =
    rw (seen-across c w (call_on k first ∷ later) results g.within.bytes r) (demand3 c w k x first rest later b g)
