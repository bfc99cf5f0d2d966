-- SIXTEEN TRANSFERS CROSS, and mornings of them. Assumes nothing.
use Rattle.refusal.specs.declared.Refusal.TheVariants.{OffLimits, ClockBack}
use Rattle.refusal.specs.declared.Refusal.{Refusal}
use Prim.Native.Nat.{ℕ, ◌≤◌, ◌<◌}
use mathlib.Core.Bool.{true, false, cond, false≢true}
use mathlib.Core.Path.{◌≡◌, refl, sym, ◌∙◌, ap, subst}
use mathlib.Core.List.{List, [], ◌∷◌, ◌++◌, map, append-nil, cons≢nil}
use native.Mathlib.Omega.{arith}
use lib.ListN.{length, take, take-append-drop}
use lib.Seq.{take_at, drop_at}
use lib.Dec.{leb}
use borrow.Author.Tests.{leb-true, leb-false, lt-ltb}
use Rattle.pieces.proofs.Tests.{ands, and_left, and_right, and_both, by_cases, clash-of, refute}
use Rattle.config.specs.declared.Config.{Config}
use Rattle.block_state.specs.declared.Assembled.{Assembled}
use Rattle.block_state.specs.declared.BlockState.{BlockState}
use Rattle.block_state.specs.declared.Answer.TheVariants.{Refused}
use Rattle.block_state.specs.Message.{What, request, response}
use Rattle.block_state.specs.State.{assembly}
use Rattle.pieces.specs.Memory.{piece_of}
use Rattle.keys.specs.Keys.{Name, key_ok}
use Rattle.block_table.proofs.Row.{Unique}
use Rattle.call.specs.Call.{World, Call, Done, done, what_ok, call_at, row_of, within_limits, call}
use Rattle.call.proofs.Frame.{WorldFits, fits-limits, call_fits, call-placed}
use Rattle.one_call.specs.Handler.{entry_at}
use Rattle.one_call.proofs.Outcomes.{place_of, opened_of, storing-assembled, early-or-placed}
use Rattle.demands.specs.Demand3.{Seen, after, Sent, call_on, joined, Rising, All, AllBytes, last_of}
use Rattle.demands.specs.Clocks.{asks, requests_on, run_on, OwnRising}
use Rattle.demands.proofs.Runs.{asks-own, all-front, all-behind, seen-cut, none_seen, Cut, cut, rising-cut, rising-own, fresh-entry, fresh-fits, after-fits, after-clock}
use Rattle.demands.proofs.Held.{Held}
use Rattle.demands.proofs.Push.{Pushed, ready-first, pass, push-from, blocks-follow}
use Rattle.many_calls.specs.Crossing.{in_form, counts, counted, seen_counted, UncountedRefused, among, AllAmong, FromFresh, Transfer, AllProper, calls_of, HandsAll, MorningsCross}
use Rattle.many_calls.specs.Crossing.{SixteenCross, UncountedAreRefused}
use Rattle.many_calls.proofs.Known.{Known, opened-known, put-known}
use Rattle.many_calls.proofs.Sixteen.{Over, over-call, over-after, has-place}

-- ---- between two pushes: no entry of the key's has anything assembled

abbrev Empty : ℕ → BlockState → Type 0
Empty i s = s.assembled.len ≡ 0

abbrev Idle : Name → World → Type 0
Idle k w = Known w k Empty

-- nor after any call that is no request on the key
module _ (c : Config) (w : World) (k : Name) (q : Call) (f : WorldFits c w) (other : asks k q ≡ false) (idle : Idle k w) where
  abbrev here : ℕ
  here = place_of c w q

  idle-placed : here < 16 → (x : What) → q.what ≡ x → Idle k (call_at c w q.time (row_of c w q) here (opened_of c w q) x).world
  unfolding call_at
  idle-placed b (request r) is = put-known c w q k f Empty idle Empty _ b (λ y. absurd (false≢true (sym (rw (y, is) at other)))) (λ n j t ne empty. empty)
  idle-placed b (response r) is =
      let same-so = storing-assembled c (opened_of c w q).state (piece_of c.response here w.response) r in
      put-known c w q k f Empty idle Empty _ b (λ y. ap (λ (a : Assembled). a.len) same-so ∙ opened-known c w q k f Empty idle b y refl) (λ n j t ne empty. empty)

  idle-any : Idle k (call c w q).world
  idle-any = early-or-placed (λ (d : Done). Idle k d.world) c w q (λ n h. idle) (λ ok later b. idle-placed b q.what refl)

idle-others : (c : Config) (k : Name) (calls : List Call) (w : World) → WorldFits c w → AllBytes calls → requests_on k calls ≡ [] → Idle k w → Idle k (after call c w calls)
idle-others c k [] w f ab none idle = idle
idle-others c k (q ∷ calls) w f ab none idle =
    by_cases (asks k q) (λ y. absurd (cons≢nil (rw y at none)))
    (λ n. idle-others c k calls (call c w q).world (call_fits c w q ab.0 f) ab.1 (rw n at none) (idle-any c w k q f n idle))

settled-idle : (c : Config) (w : World) (k : Name) (i last : ℕ) → Held c w k i last → (entry_at w i).state.assembled ≡ assembly 0 0 → Idle k w
unfolding Unique
settled-idle c w k i last g empty j b h =
    let f = g.fits in
    let e : j ≡ i = f.table.unique k j i (omega (arith, f.sixteen)) (omega (arith, f.sixteen, g.slot)) h g.held in
    rw e (ap (λ (a : Assembled). a.len) empty)

-- ---- a key's pushes, among calls that count

module _ (c : Config) (k : Name) (keys : List Name) (few : length keys ≤ 16) where
  -- what a list of calls that count is, seen from the key
  record Counted (w : World) (calls own : List Call) : Type 0 where
    fits : WorldFits c w
    over : Over keys w
    idle : Idle k w
    rising : OwnRising k w.table.clock calls
    bytes : AllBytes calls
    all : AllAmong keys calls
    form : All (λ q. in_form q ≡ true) calls
    owns : requests_on k calls ≡ own

  -- the key's next push, from its first block on
  next-push : (w : World) (calls : List Call) (p : Transfer) (pushes : List Transfer) → Counted w calls (calls_of k (p ∷ pushes)) → AllProper c (p ∷ pushes)
      → Pushed c w k (last_of p.first p.rest).time (length (p.first ∷ p.rest)) (joined p.first p.rest) (calls_of k pushes) calls
  next-push w calls p pushes g proper =
      let s : Sent = p.first in
      let b = proper.0 in
      let z : Cut k calls (call_on k s) (map (call_on k) p.rest ++ calls_of k pushes) = cut k calls (call_on k s) (map (call_on k) p.rest ++ calls_of k pushes) g.owns in
      let parts : List Call = call_on k s ∷ z.behind in
      let r = rising-cut k w.table.clock z.before (call_on k s) z.behind (asks-own k s) (subst (OwnRising k w.table.clock) z.is g.rising) in
      let ab : AllBytes (z.before ++ parts) = subst AllBytes z.is g.bytes in
      let aa : AllAmong keys (z.before ++ parts) = subst (AllAmong keys) z.is g.all in
      let form = all-behind _ z.before parts (subst (All (λ q. in_form q ≡ true)) z.is g.form) in
      let v : World = after call c w z.before in
      let ab₀ : AllBytes z.before = all-front _ z.before parts ab in
      let fits : WorldFits c v = after-fits c z.before w g.fits ab₀ in
      let over : Over keys v = over-after c keys z.before w g.fits ab₀ (all-front _ z.before parts aa) g.over in
      let idle : Idle k v = idle-others c k z.before w g.fits ab₀ z.none g.idle in
      let later : v.table.clock ≤ s.time = after-clock c s.time z.before w r.0 r.1 in
      let placed = has-place c v keys fits over k s.time few (all-behind _ z.before parts aa).0 in
      let follow = blocks-follow c p.exponent s p.rest b in
      let ready = ready-first c v k s.time fits later follow.0 follow.1 placed (λ plain i b h l. idle i b h) in
      let named : key_ok k ≡ true = and_left (key_ok k) (what_ok (request s.message)) form.0 in
      let n = push-from c k named p.rest v follow.0 [] s z.behind (calls_of k pushes) ready follow.2 b.prompt b.fits
      (all-behind _ z.before parts ab) r.2 z.left in
      subst (Pushed c w k (last_of s p.rest).time (length (s ∷ p.rest)) (joined s p.rest) (calls_of k pushes)) (sym z.is)
      (pass c w k (last_of s p.rest).time (length (s ∷ p.rest)) (joined s p.rest) (calls_of k pushes) parts z.before z.none n)

  -- what is left of the calls behind it
  left_over : (w : World) (calls own : List Call) (last n : ℕ) (bytes : List ℕ) (tail : List Call) → Counted w calls own → (p : Pushed c w k last n bytes tail calls)
      → Counted (after call c w p.front) p.behind tail
  left_over w calls own last n bytes tail g p =
      let ab : AllBytes (p.front ++ p.behind) = subst AllBytes p.is g.bytes in
      let aa : AllAmong keys (p.front ++ p.behind) = subst (AllAmong keys) p.is g.all in
      record {
        fits = p.settled.fits;
        over = over-after c keys p.front w g.fits (all-front _ p.front p.behind ab) (all-front _ p.front p.behind aa) g.over;
        idle = settled-idle c _ k p.slot last p.settled p.empty;
        rising = rw p.clock p.rising;
        bytes = all-behind _ p.front p.behind ab;
        all = all-behind _ p.front p.behind aa;
        form = all-behind _ p.front p.behind (subst (All (λ q. in_form q ≡ true)) p.is g.form);
        owns = p.own;
      }

  one_by_one : (pushes : List Transfer) (w : World) (calls : List Call) → Counted w calls (calls_of k pushes) → AllProper c pushes
      → HandsAll pushes (run_on k call c w calls)
  one_by_one [] w calls g proper = none_seen call c k calls w g.owns
  one_by_one (p ∷ pushes) w calls g proper =
      let d = next-push w calls p pushes g proper in
      let here : List Seen = run_on k call c w d.front in
      let there : List Seen = run_on k call c (after call c w d.front) d.behind in
      let n : ℕ = length (p.first ∷ p.rest) in
      let all : run_on k call c w calls ≡ here ++ there = ap (λ (l : List Call). run_on k call c w l) d.is ∙ seen-cut call c k d.front d.behind w in
      let rest = one_by_one pushes (after call c w d.front) d.behind (left_over w calls _ _ n _ (calls_of k pushes) g d) proper.1 in
      rw (all, take_at here there n d.many, drop_at here there n d.many) (d.hands, rest)

-- ---- the calls that do not count leave no trace

abbrev refused : Call → Refusal
refused q = cond (in_form q) ClockBack OffLimits

uncounted : (c : Config) (w : World) (q : Call) → WorldFits c w → counts w.table.clock q ≡ false → call c w q ≡ done w (Refused (refused q))
unfolding call within_limits
uncounted c w q f h =
    by_cases (in_form q)
    (λ y.
    let ok = fits-limits c w q f (and_left (key_ok q.key) (what_ok q.what) y) (and_right (key_ok q.key) (what_ok q.what) y) in
    let back : q.time < w.table.clock = leb-false w.table.clock q.time (rw y at h) in
    rw (y, within_limits, ok, lt-ltb q.time w.table.clock back))
    (λ n. rw (n, off n))
  where
    off : in_form q ≡ false → within_limits c w q ≡ false
    off n = refute (within_limits c w q) (λ t. clash-of (in_form q) (and_both (key_ok q.key) (what_ok q.what) (search ands) (search ands)) n)

rising-counted : (t : ℕ) (calls : List Call) → Rising t (counted t calls)
rising-counted t [] = tt
rising-counted t (q ∷ calls) =
    by_cases (counts t q)
    (λ y. rw y (leb-true t q.time (and_right (in_form q) (leb t q.time) y), rising-counted q.time calls))
    (λ n. rw n (rising-counted t calls))

bytes_counted : (t : ℕ) (calls : List Call) → AllBytes calls → AllBytes (counted t calls)
bytes_counted t [] ab = tt
bytes_counted t (q ∷ calls) ab =
    by_cases (counts t q) (λ y. rw y (ab.0, bytes_counted q.time calls ab.1)) (λ n. rw n (bytes_counted t calls ab.1))

form-counted : (t : ℕ) (calls : List Call) → All (λ q. in_form q ≡ true) (counted t calls)
form-counted t [] = tt
form-counted t (q ∷ calls) =
    by_cases (counts t q)
    (λ y. rw y (and_left (in_form q) (leb t q.time) y, form-counted q.time calls))
    (λ n. rw n (form-counted t calls))

module _ (c : Config) (keys : List Name) (few : length keys ≤ 16) where
  -- a call that counts is placed, and sets the clock
  clock-counted : (w : World) (q : Call) → WorldFits c w → Over keys w → among q.key keys ≡ true → counts w.table.clock q ≡ true
      → (call c w q).world.table.clock ≡ q.time
  unfolding call_at
  clock-counted w q f over mine y =
      let form : in_form q ≡ true = and_left (in_form q) (leb w.table.clock q.time) y in
      rw (call-placed c w q f (and_left (key_ok q.key) (what_ok q.what) form)
      (leb-true w.table.clock q.time (and_right (in_form q) (leb w.table.clock q.time) y))
      (has-place c w keys f over q.key q.time few mine) (and_right (key_ok q.key) (what_ok q.what) form))
      (at-clock q.what)
    where
      at-clock : (x : What) → (call_at c w q.time (row_of c w q) (place_of c w q) (opened_of c w q) x).world.table.clock ≡ q.time
      at-clock (request r) = refl
      at-clock (response r) = refl

  -- what is seen of the calls that count is what is seen of them alone, and the others are refused
  traceless : (k : Name) (calls : List Call) (w : World) → WorldFits c w → Over keys w → AllBytes calls → AllAmong keys (counted w.table.clock calls)
      → (seen_counted k call c w w.table.clock calls ≡ run_on k call c w (counted w.table.clock calls))
      × UncountedRefused call c w w.table.clock calls
  traceless k [] w f over ab aa = (refl, tt)
  traceless k (q ∷ calls) w f over ab aa =
      by_cases (counts w.table.clock q)
      (λ y.
      let m : AllAmong keys (q ∷ counted q.time calls) = rw y at aa in
      let e : (call c w q).world.table.clock ≡ q.time = clock-counted w q f over m.0 y in
      let t = traceless k calls (call c w q).world (call_fits c w q ab.0 f) (over-call c w keys f over q m.0) ab.1 (rw e m.1) in
      let t' = rw e at t in
      rw y (by_cases (asks k q) (λ m. rw (m, t'.0)) (λ m. rw (m, t'.0)), t'.1))
      (λ n.
      let e : call c w q ≡ done w (Refused (refused q)) = uncounted c w q f n in
      let t = traceless k calls w f over ab.1 (rw n at aa) in
      rw (n, e) (t.0, (refl, t.1)))

-- ---- from a fresh table

module _ (c : Config) (w : World) (keys : List Name) (calls : List Call) (g : FromFresh c w keys calls) where
  fresh-over : Over keys w
  fresh-over i b u = absurd (false≢true (rw (fresh-entry w g.start.table i b) at u))

  fresh-idle : (k : Name) → Idle k w
  fresh-idle k i b h = rw (fresh-entry w g.start.table i b)

  fresh-clock : w.table.clock ≡ 0
  fresh-clock = rw g.start.table

  fresh-traceless : (k : Name) → (seen_counted k call c w 0 calls ≡ run_on k call c w (counted 0 calls)) × UncountedRefused call c w 0 calls
  fresh-traceless k =
      subst (λ (t : ℕ). (seen_counted k call c w t calls ≡ run_on k call c w (counted t calls)) × UncountedRefused call c w t calls) fresh-clock
      (traceless c keys g.sixteen k calls w (fresh-fits c w g.start) fresh-over g.bytes (rw fresh-clock g.over))

-- A MORNING OF PUSHES ON EACH KEY
pub mornings-cross : MorningsCross call
unfolding MorningsCross
mornings-cross c w keys calls g k pushes s =
    rw (fresh-traceless c w keys calls g k).0
    (one_by_one c k keys g.sixteen pushes w (counted 0 calls)
    (record {
      fits = fresh-fits c w g.start;
      over = fresh-over c w keys calls g;
      idle = fresh-idle c w keys calls g k;
      rising = rw (fresh-clock c w keys calls g) (rising-own k 0 (counted 0 calls) (rising-counted 0 calls));
      bytes = bytes_counted 0 calls g.bytes;
      all = g.over;
      form = form-counted 0 calls;
      owns = s.own;
    })
    s.proper)

-- ONE PUSH ON EACH KEY
pub sixteen-cross : SixteenCross call
unfolding SixteenCross MorningsCross
sixteen-cross c w keys calls g k p s =
    let l : List Seen = seen_counted k call c w 0 calls in
    let n : ℕ = length (p.first ∷ p.rest) in
    let h = mornings-cross c w keys calls g k (p ∷ []) s in
    let whole : take n l ≡ l = sym (append-nil (take n l)) ∙ ap (λ (r : List Seen). take n l ++ r) (sym h.1) ∙ take-append-drop n l in
    rw whole at h.0

pub uncounted-are-refused : UncountedAreRefused call
unfolding UncountedAreRefused
uncounted-are-refused c w keys calls g = (fresh-traceless c w keys calls g []).1
