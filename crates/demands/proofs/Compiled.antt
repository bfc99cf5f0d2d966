-- Demand 3 holds of whatever satisfies the contracts of the compiled calls. Assumes nothing.
use mathlib.Core.Path.{◌≡◌, refl, sym, ap, subst}
use mathlib.Core.List.{List, [], ◌∷◌}
use Rattle.call.specs.Call.{call}
use Rattle.one_call.specs.Handler.{Handler}
use Rattle.demands.specs.Demand3.{Seen, seen, call_on, Demand3}
use Rattle.demands.specs.Falling.{Demand3Falling}
use Rattle.demands.specs.Compiled.{RequestEnsures, ResponseEnsures, BodyEnsures, RequestAsks, ResponseAsks, BodyAsks, KeepsContract, OfAllThatKeep, RunsAreCalls, Demand3OfRuns}
use Rattle.demands.proofs.Demand3.{demand3, demand3-falling}

-- ---- the contracts' own statements

pub request-ensures : RequestEnsures
request-ensures κs a r s = refl

pub response-ensures : ResponseEnsures
response-ensures κs a r s = refl

pub body-ensures : BodyEnsures
body-ensures κs a r s = refl

pub request-asks : RequestAsks
request-asks κs a = refl

pub response-asks : ResponseAsks
response-asks κs a = refl

pub body-asks : BodyAsks
body-asks κs a = refl

-- ---- whatever keeps the contracts

-- a handler that keeps them is the definition
pub of-all-that-keep : OfAllThatKeep
of-all-that-keep Promise p h m = subst Promise (sym (λ i c w q. m c w q i)) p

pub kept-demand3 : (h : Handler) → KeepsContract h → Demand3 h
kept-demand3 = of-all-that-keep Demand3 demand3

-- a run that keeps the contracts is the definition's
pub runs-are-calls : RunsAreCalls
unfolding RunsAreCalls
runs-are-calls c w [] [] r = (refl, refl)
runs-are-calls c w [] (d ∷ results) r = absurd r
runs-are-calls c w (q ∷ calls) [] r = absurd r
runs-are-calls c w (q ∷ calls) (d ∷ results) r =
    let e : d ≡ call c w q = r.0 in
    let rest = runs-are-calls c d.world calls results r.1 in
    rw (← e) (ap (λ (l : List Seen). seen q d ∷ l) rest.0, rest.1)

pub runs-demand3 : Demand3OfRuns
unfolding Demand3OfRuns RunsAreCalls Demand3Falling
runs-demand3 c w k x first rest later results b g r =
    rw (runs-are-calls c w (call_on k first ∷ later) results r).0 (demand3-falling c w k x first rest later b g)
