-- Laws of runs: calls cut in two, calls that are not on a key, and what a run keeps. Assumes nothing.
use Prim.Native.Nat.{ℕ, ◌*◌, ◌≤◌, ◌<◌, max}
use mathlib.Core.Bool.{true}
use mathlib.Core.Path.{◌≡◌, refl, ap}
use mathlib.Core.List.{List, [], ◌∷◌, ◌++◌, map, nil≢cons, cons≢nil, head-eq_of_cons-eq, tail-eq_of_cons-eq}
use native.Mathlib.Omega.{arith}
use lib.ListN.{length, get_or-replicate}
use borrow.Author.Tests.{eqb-true}
use Rattle.pieces.proofs.Tests.{ands, by_cases}
use Rattle.config.specs.declared.Config.{Config}
use Rattle.block_state.specs.Message.{What, request, response}
use Rattle.keys.specs.Keys.{Name, same}
use Rattle.keys.proofs.Keys.{same_refl}
use Rattle.entries.specs.Entries.{free}
use Rattle.block_table.specs.Table.{fresh_table}
use Rattle.block_table.proofs.TableFits as fits
use Rattle.judge.specs.Limits.{memories_ok}
use Rattle.call.specs.Call.{World, Call, call_at, row_of, call}
use Rattle.call.proofs.Frame.{WorldFits, call_fits, call-cases}
use Rattle.one_call.specs.Handler.{Handler, entry_at}
use Rattle.one_call.proofs.Outcomes.{place_of, opened_of}
use Rattle.demands.specs.Demand3.{run, after, calls_on, seen_on, Sent, call_on, All, AllBytes, Rising, Fresh}
use Rattle.demands.specs.Clocks.{asks, requests_on, run_on, OwnRising}

-- ---- calls cut in two

pub all-front : (P : Call → Type 0) (a b : List Call) → All P (a ++ b) → All P a
all-front P [] b h = tt
all-front P (q ∷ a) b h = (h.0, all-front P a b h.1)

pub all-behind : (P : Call → Type 0) (a b : List Call) → All P (a ++ b) → All P b
all-behind P [] b h = h
all-behind P (q ∷ a) b h = all-behind P a b h.1

pub after-cut : (h : Handler) (c : Config) (a b : List Call) (w : World) → after h c w (a ++ b) ≡ after h c (after h c w a) b
after-cut h c [] b w = refl
after-cut h c (q ∷ a) b w = after-cut h c a b (h c w q).world

pub seen-cut : (h : Handler) (c : Config) (k : Name) (a b : List Call) (w : World) → run_on k h c w (a ++ b) ≡ run_on k h c w a ++ run_on k h c (after h c w a) b
seen-cut h c k [] b w = refl
seen-cut h c k (q ∷ a) b w =
    let rest = seen-cut h c k a b (h c w q).world in
    by_cases (asks k q) (λ y. rw (y, rest)) (λ n. rw (n, rest))

pub none_seen : (h : Handler) (c : Config) (k : Name) (calls : List Call) (w : World) → requests_on k calls ≡ [] → run_on k h c w calls ≡ []
none_seen h c k [] w e = refl
none_seen h c k (q ∷ calls) w e =
    by_cases (asks k q) (λ y. absurd (cons≢nil (rw y at e))) (λ n. rw n (none_seen h c k calls (h c w q).world (rw n at e)))

-- ---- the key's next request, with the calls before it and behind it

pub record Cut (k : Name) (calls : List Call) (q : Call) (l : List Call) : Type 0 where
  pub before : List Call
  pub behind : List Call
  pub is : calls ≡ before ++ (q ∷ behind)
  pub none : requests_on k before ≡ []
  pub left : requests_on k behind ≡ l

pub cut : (k : Name) (calls : List Call) (q : Call) (l : List Call) → requests_on k calls ≡ q ∷ l → Cut k calls q l
cut k [] q l e = absurd (nil≢cons e)
cut k (p ∷ calls) q l e =
    by_cases (asks k p)
    (λ y.
    let h : p ∷ requests_on k calls ≡ q ∷ l = rw y at e in
    record { before = []; behind = calls; is = ap (λ (r : Call). r ∷ calls) (head-eq_of_cons-eq h); none = refl; left = tail-eq_of_cons-eq h })
    (λ n.
    let g = cut k calls q l (rw n at e) in
    record { before = p ∷ g.before; behind = g.behind; is = ap (λ (r : List Call). p ∷ r) g.is; none = rw n g.none; left = g.left })

-- the key's next request is not before t, nor before any of those ahead of it
pub rising-cut : (k : Name) (t : ℕ) (a : List Call) (q : Call) (b : List Call) → asks k q ≡ true → OwnRising k t (a ++ (q ∷ b))
    → (t ≤ q.time) × All (λ p. p.time ≤ q.time) a × OwnRising k q.time b
rising-cut k t [] q b y h =
    let up : t ≤ q.time = h.0 y in
    let latest : max t q.time ≡ q.time = omega arith in
    (up, tt, rw latest at h.1)
rising-cut k t (p ∷ a) q b y h =
    let r = rising-cut k (max t p.time) a q b y h.1 in
    (omega (arith, r.0), (omega (arith, r.0), r.1), r.2)

-- a clock that never goes back does not go back at the key's requests
pub rising-own : (k : Name) (t : ℕ) (calls : List Call) → Rising t calls → OwnRising k t calls
rising-own k t [] h = tt
rising-own k t (q ∷ calls) h =
    let latest : max t q.time ≡ q.time = omega (arith, h.0) in
    (λ y. h.0, rw latest (rising-own k q.time calls h.1))

-- a block is a request on its key
pub asks-own : (k : Name) (s : Sent) → asks k (call_on k s) ≡ true
asks-own k s = rw (same_refl k)

-- where all calls on the key are blocks, its calls are its requests
pub only-asks : (k : Name) (calls : List Call) (l : List Sent) → calls_on k calls ≡ map (call_on k) l → All (λ q. asks k q ≡ same k q.key) calls
only-asks k [] l e = tt
only-asks k (q ∷ calls) [] e =
    by_cases (same k q.key) (λ y. absurd (cons≢nil (rw y at e))) (λ n. (rw n, only-asks k calls [] (rw n at e)))
only-asks k (q ∷ calls) (s ∷ l) e =
    by_cases (same k q.key)
    (λ y.
    let h : q ∷ calls_on k calls ≡ call_on k s ∷ map (call_on k) l = rw y at e in
    let z : q ≡ call_on k s = head-eq_of_cons-eq h in
    (rw (z, same_refl k), only-asks k calls l (tail-eq_of_cons-eq h)))
    (λ n. (rw n, only-asks k calls (s ∷ l) (rw n at e)))

pub own-requests : (k : Name) (calls : List Call) → All (λ q. asks k q ≡ same k q.key) calls → requests_on k calls ≡ calls_on k calls
own-requests k [] h = refl
own-requests k (q ∷ calls) h = let rest = own-requests k calls h.1 in by_cases (same k q.key) (λ y. rw (h.0, y, rest)) (λ n. rw (h.0, n, rest))

pub own-seen : (h : Handler) (c : Config) (k : Name) (calls : List Call) (w : World) → All (λ q. asks k q ≡ same k q.key) calls
    → run_on k h c w calls ≡ seen_on k (run h c w calls)
own-seen h c k [] w o = refl
own-seen h c k (q ∷ calls) w o =
    let rest = own-seen h c k calls (h c w q).world o.1 in
    by_cases (same k q.key) (λ y. rw (o.0, y, rest)) (λ n. rw (o.0, n, rest))

-- ---- what a run of calls starts from, and keeps

pub fresh-entry : (w : World) → w.table ≡ fresh_table → (i : ℕ) → i < 16 → entry_at w i ≡ free
fresh-entry w fresh i b = rw fresh (get_or-replicate 16 i free free b)

pub fresh-fits : (c : Config) (w : World) → Fresh c w → WorldFits c w
unfolding memories_ok
fresh-fits c w g =
    let m = g.memories in
    record {
      config = g.config;
      upload = eqb-true (length w.upload) (16 * c.upload) (search ands);
      response = eqb-true (length w.response) (16 * c.response) (search ands);
      sixteen = rw g.table;
      table = rw g.table (fits.fresh-fits c);
    }

pub after-fits : (c : Config) (calls : List Call) (w : World) → WorldFits c w → AllBytes calls → WorldFits c (after call c w calls)
after-fits c [] w f ab = f
after-fits c (q ∷ calls) w f ab = after-fits c calls (call c w q).world (call_fits c w q ab.0 f) ab.1

-- no call sets the clock past a time that neither it nor the clock has passed
clock-under : (c : Config) (w : World) (q : Call) (end : ℕ) → w.table.clock ≤ end → q.time ≤ end → (call c w q).world.table.clock ≤ end
unfolding call_at
clock-under c w q end h b =
    call-cases (λ d. d.world.table.clock ≤ end) c w q (λ n. h) (λ named ok later p. placed q.what)
  where
    placed : (y : What) → (call_at c w q.time (row_of c w q) (place_of c w q) (opened_of c w q) y).world.table.clock ≤ end
    placed (request r) = b
    placed (response r) = b

pub after-clock : (c : Config) (end : ℕ) (calls : List Call) (w : World) → w.table.clock ≤ end → All (λ q. q.time ≤ end) calls
    → (after call c w calls).table.clock ≤ end
after-clock c end [] w h nl = h
after-clock c end (q ∷ calls) w h nl = after-clock c end calls (call c w q).world (clock-under c w q end h nl.0) nl.1
