-- DEMAND 3 OF WHAT PEOPLE LINK. Assumes nothing.
use Prim.Native.Nat.{ℕ}
use mathlib.Core.Path.{◌≡◌, refl, sym, ap, ap₂, ◌∙◌}
use mathlib.Core.List.{List, [], ◌∷◌, map}
use Rattle.pieces.proofs.Tests.{by_cases}
use Rattle.config.specs.declared.Config.{Config}
use Rattle.apart.specs.Answers.{kind_number, said}
use Rattle.keys.specs.Keys.{Name}
use Rattle.call.specs.Call.{World, Call, call}
use Rattle.replies.specs.Reply.{reply_of}
use Rattle.replies.proofs.Shown.{body_bytes}
use Rattle.handler_c.specs.Contract.{Replies}
use Rattle.demands.specs.Demand3.{Seen, seen, run, after, payload_of, call_on, joined, HandsOn}
use Rattle.demands.specs.Clocks.{asks, run_on, Demand3Own}
use Rattle.demands.proofs.Demand3.{demand3-own}
use Rattle.demands_c.specs.Exports.{Returned, seen_in_c, in_c, RunsAreCallsInC, seen_on_in_c, HandsOnInC, Demand3InC, DeterminedInC}

seen-in-C : (c : Config) (w : World) (q : Call) (d : Returned) → Replies c w q d.world d.reply → seen_in_c q d ≡ in_c (seen q (call c w q))
seen-in-C c w q d m =
    let same : d ≡ record { world = (call c w q).world; reply = reply_of (call c w q).answer } = λ i. record { world = m.0 i; reply = m.1 i } in
    ap (seen_in_c q) same
    ∙ ap (λ (b : List ℕ). record { key = q.key; kind = kind_number (said (call c w q).answer).kind; shown = b })
    (body_bytes (call c w q).answer (payload_of q.what) (call c w q).world.upload)

pub runs-are-calls-in-C : RunsAreCallsInC
unfolding RunsAreCallsInC
runs-are-calls-in-C c w [] [] r = (refl, refl)
runs-are-calls-in-C c w [] (d ∷ results) r = absurd r
runs-are-calls-in-C c w (q ∷ calls) [] r = absurd r
runs-are-calls-in-C c w (q ∷ calls) (d ∷ results) r =
    let v : d.world ≡ (call c w q).world = r.0.0 in
    let rest = runs-are-calls-in-C c d.world calls results r.1 in (
      ap₂ ◌∷◌ (seen-in-C c w q d r.0) (rest.0 ∙ ap (λ (w : World). map in_c (run call c w calls)) v),
      rest.1 ∙ ap (λ (w : World). after call c w calls) v,
    )

seen-on-in-C : (c : Config) (k : Name) (calls : List Call) (w : World) → seen_on_in_c k calls (map in_c (run call c w calls)) ≡ map in_c (run_on k call c w calls)
seen-on-in-C c k [] w = refl
seen-on-in-C c k (q ∷ calls) w = let rest = seen-on-in-C c k calls (call c w q).world in by_cases (asks k q) (λ y. rw (y, rest)) (λ n. rw (n, rest))

hands-on-in-C : (bytes : List ℕ) (l : List Seen) → HandsOn bytes l → HandsOnInC bytes (map in_c l)
hands-on-in-C bytes [] h = h
hands-on-in-C bytes (s ∷ []) h = (ap kind_number h.0, h.1)
hands-on-in-C bytes (s ∷ t ∷ l) h = (ap kind_number h.0, hands-on-in-C bytes (t ∷ l) h.1)

pub demand3-in-C : Demand3InC
unfolding Demand3InC RunsAreCallsInC Demand3Own
demand3-in-C c w k x first rest later results b g r =
    rw ((runs-are-calls-in-C c w (call_on k first ∷ later) results r).0, seen-on-in-C c k (call_on k first ∷ later) w)
    (hands-on-in-C (joined first rest) (run_on k call c w (call_on k first ∷ later)) (demand3-own c w k x first rest later b g))

pub determined-in-C : DeterminedInC
unfolding DeterminedInC
determined-in-C c w q v v' r r' m n = (m.0 ∙ sym n.0, m.1 ∙ sym n.1)
