-- DEMAND 3 holds of the definition of a call, in both modes: first with sizes that fall, other lanes' clocks going as they like and the key's own responses anywhere
-- (specs/Clocks.antt), and so for sizes that fall (specs/Falling.antt), and so as the mission has it. Assumes nothing.
use Prim.Native.Nat.{ℕ}
use mathlib.Core.Path.{◌≡◌, sym, ◌∙◌, subst}
use mathlib.Core.List.{List, [], ◌∷◌, map, append-nil}
use lib.ListN.{length}
use Rattle.config.specs.declared.Config.{Config}
use Rattle.keys.specs.Keys.{Name, same}
use Rattle.keys.proofs.Keys.{same_refl}
use Rattle.call.specs.Call.{World, Call, call}
use Rattle.call.proofs.Frame.{world-fits, key-within}
use Rattle.demands.specs.Demand3.{after, Sent, call_on, joined, All, Granted, HandsOn, Demand3, last_of}
use Rattle.demands.specs.Falling.{FallingBlocks, Demand3Falling, Extends}
use Rattle.demands.specs.Clocks.{asks, run_on, GrantedOwn, Demand3Own, Stronger}
use Rattle.demands.proofs.Runs.{asks-own, only-asks, own-requests, own-seen, seen-cut, none_seen, rising-cut, rising-own}
use Rattle.demands.proofs.Push.{Pushed, place-first, ready-first, push-from, blocks-follow}
use Rattle.demands.proofs.Falling.{extends}

-- a push, once its last block was taken
pub pushed : (c : Config) (w : World) (k : Name) (x : ℕ → ℕ) (first : Sent) (rest : List Sent) (later : List Call) → FallingBlocks c x first rest
    → GrantedOwn c w k first rest later → Pushed c w k (last_of first rest).time (length (first ∷ rest)) (joined first rest) [] (call_on k first ∷ later)
pushed c w k x first rest later b g =
    let p = g.within in
    let f = world-fits c w (call_on k first) p.limits p.sixteen in
    let r = rising-cut k w.table.clock [] (call_on k first) later (asks-own k first) g.clock in
    let placed = place-first c w k first.time f r.0 g.entry in
    let follow = blocks-follow c x first rest b in
    let ready = ready-first c w k first.time f r.0 follow.0 follow.1 placed g.nothing in
    push-from c k (key-within c w (call_on k first) p.limits) rest w follow.0 [] first later [] ready
    follow.2 b.prompt b.fits p.bytes r.2 (g.own ∙ sym (append-nil (map (call_on k) rest)))

pub demand3-own : Demand3Own call
unfolding Demand3Own
demand3-own c w k x first rest later b g =
    let p = pushed c w k x first rest later b g in
    let none = none_seen call c k p.behind (after call c w p.front) p.own in
    subst (λ (l : List Call). HandsOn (joined first rest) (run_on k call c w l)) (sym p.is)
    (rw (seen-cut call c k p.front p.behind w, none, append-nil (run_on k call c w p.front)) p.hands)

-- what the mission's demand grants is what Clocks.antt asks
pub granted-own : (c : Config) (w : World) (k : Name) (first : Sent) (rest : List Sent) (later : List Call) → Granted c w k first rest later → GrantedOwn c w k first rest later
granted-own c w k first rest later g =
    record {
      entry = g.entry;
      nothing = g.nothing;
      within = g.within;
      own = own-requests k later (only-asks k later rest g.own) ∙ g.own;
      clock = rising-own k w.table.clock (call_on k first ∷ later) g.clock;
    }

pub stronger : Stronger
unfolding Stronger Demand3Own Demand3Falling
stronger h d c w k x first rest later b g =
    let all : All (λ q. asks k q ≡ same k q.key) (call_on k first ∷ later) = (rw (same_refl k), only-asks k later rest g.own) in
    rw (own-seen h c k (call_on k first ∷ later) w all) at (d c w k x first rest later b (granted-own c w k first rest later g))

-- DEMAND 3 FOR A SENDER THAT GOES SMALLER
pub demand3-falling : Demand3Falling call
unfolding Stronger
demand3-falling = stronger call demand3-own

-- DEMAND 3
pub demand3 : Demand3 call
unfolding Extends
demand3 = extends call demand3-falling
