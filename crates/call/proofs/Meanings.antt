-- A call by its verdict, and a call at its place as the code makes it. Assumes nothing.
use Rattle.std.specs.Prelude.{Result, Ok, Err}
use Prim.Native.Nat.{ℕ, ◌+◌, ◌-◌, ◌*◌, ◌≤◌, ◌<◌}
use mathlib.Core.Path.{◌≡◌, refl, sym, ap, ◌∙◌}
use mathlib.Core.Bool.{Bool, true, false, ◌&&◌}
use mathlib.Core.List.{List, ◌++◌}
use native.Mathlib.Omega.{arith}
use lib.ListN.{length, take, drop}
use lib.Dec.{leb, ltb}
use Rattle.refusal.specs.declared.Refusal.{Refusal}
use Rattle.pieces.specs.Memory.{part, piece_of, put_piece}
use Rattle.pieces.proofs.Memory.{patch-lent, length-piece}
use Rattle.pieces.proofs.Tests.{by_cases}
use Rattle.config.specs.declared.Config.{Config}
use Rattle.block_state.specs.declared.BlockState.{BlockState}
use Rattle.block_state.specs.declared.Answer.{Answer}
use Rattle.block_state.specs.declared.Answer.TheVariants.{Refused}
use Rattle.block_state.specs.declared.RequestNumbers.{RequestNumbers}
use Rattle.block_state.specs.declared.Stepped.{Stepped}
use Rattle.block_state.specs.Message.{Request, Response, request, response}
use Rattle.block_state.specs.Contract.{asking}
use Rattle.block_state.specs.Step.{left}
use Rattle.request_step.specs.declared.Asked.{Asked}
use Rattle.request_step.specs.Step.{step_with, asked_by}
use Rattle.request_step.proofs.Steps.{step-read}
use Rattle.response_step.specs.Step.{step_response}
use Rattle.keys.specs.declared.Key.{Key}
use Rattle.keys.specs.Keys.{Name, stored}
use Rattle.entries.specs.declared.Entry.{Entry}
use Rattle.block_table.specs.declared.Table.{Table}
use Rattle.entries.specs.Entries.{in_use, sweep}
use Rattle.entries.specs.Held.{held_by, held}
use Rattle.block_table.specs.Table.{at}
use Rattle.block_table.proofs.Row.{length-sweep, at-sweep}
use Rattle.block_table.proofs.Changed.{with-figure}
use Rattle.places.specs.declared.Sight.{Sight}
use Rattle.key_place.specs.Place.{place}
use Rattle.places.specs.Places.{opened}
use Rattle.places.specs.Sight.{Sees}
use Rattle.places.proofs.Sighted.{seen_back}
use Rattle.table_change.specs.Change.{changed, unchanged, opened_from, change_to}
use Rattle.judge.specs.declared.Lengths.{Lengths}
use Rattle.judge.specs.Verdict.{lengths, message_ok, limits_ok, verdict_of, HasPlace}
use Rattle.judge.proofs.Judged.{verdict-is, at_place, seen_entry, seen-others, seen-freed}
use Rattle.call.specs.Call.{World, Call, Done, done, what_ok, within_limits, table_after, request_left, response_left, call_at, row_of, call}
use Rattle.call.specs.Contract.{world, asked_at}

-- ---- a call by its verdict

abbrev pub judged : Config → World → Call → Result ℕ Refusal → Done
judged c w q (Err n) = done w (Refused n)
judged c w q (Ok i) = call_at c w q.time (row_of c w q) i (opened q.key (row_of c w q)) q.what

module _ (c : Config) (w : World) (q : Call) (bare payload head : ℕ) (same : what_ok q.what ≡ message_ok bare payload head) where
  abbrev sizes : Lengths
  sizes = lengths (length w.upload) (length w.response) bare payload head

  limits-same : within_limits c w q ≡ limits_ok c w.table q.key sizes
  unfolding within_limits limits_ok
  limits-same = rw same

  pub call-judged : call c w q ≡ judged c w q (verdict_of c w.table q.time q.key sizes)
  unfolding call
  call-judged =
      rw (limits-same, verdict-is c w.table q.time q.key sizes)
      (by_cases (limits_ok c w.table q.key sizes)
      (λ l. by_cases (ltb q.time w.table.clock)
      (λ e. rw (l, e))
      (λ e. by_cases (leb 16 (place q.key (row_of c w q))) (λ p. rw (l, e, p)) (λ p. rw (l, e, p))))
      (λ l. rw l))

  -- what the code answers, by the verdict that it found
  pub call_by : (v x : Result ℕ Refusal) → v ≡ verdict_of c w.table q.time q.key sizes → v ≡ x → judged c w q x ≡ call c w q
  call_by v x e f = sym (call-judged ∙ ap (judged c w q) (sym e ∙ f))

-- a request has no head
pub request-ok : (r : Request) → what_ok (request r) ≡ message_ok r.bare (length r.payload) 0
unfolding what_ok message_ok
request-ok r = sym (and-true _)
  where
    and-true : (a : Bool) → (a && true) ≡ a
    and-true true = refl
    and-true false = refl

pub response-ok : (r : Response) → what_ok (response r) ≡ message_ok r.bare (length r.payload) (length r.head)
unfolding what_ok message_ok
response-ok r = refl

-- a refusal leaves all as it was
pub refusal : (c : Config) (w : World) (time : ℕ) (key : Name) (s : Sight) (n : Refusal) → Sees c time key w.table s
    → done (world (changed c.lifetime time w.table (unchanged s n)) w.upload w.response) (Refused n) ≡ done w (Refused n)
refusal c w time key s n sees = λ k. done (world (seen_back c time key w.table s sees k) w.upload w.response) (Refused n)

-- ---- a call at its place i, seen so

module _ (c : Config) (s : Sight) (time : ℕ) (key : Name) (n : Lengths) (i : ℕ) (t : Table) (has : HasPlace c s time key n i t) where
  abbrev swept-row : List Entry
  swept-row = sweep c.lifetime time t.entries

  -- the entry that it starts from
  pub opened-at : (own : Key) → own ≡ stored key → opened_from c.lifetime time own s.entry ≡ opened key swept-row
  unfolding opened
  opened-at own is-own =
      let here = at_place c t time key n i has.1 in
      rw (is-own, seen_entry c s time key n i t has, ← here.is, ← at-sweep c.lifetime time t.entries i)

  -- its change: the entry is put into the swept row, which may be the row itself, and the figure is that row's
  pub changed-at : (k : Key) (g : Stepped) → changed c.lifetime time t (change_to s i time k g) ≡ table_after swept-row time i k g.state
  changed-at k g =
      let here = at_place c t time key n i has.1 in
      let e = in_use k time g.state in
      let beside : s.others ≡ held swept-row - held_by (at swept-row i) = seen-others c s time key n i t has ∙ rw (at-sweep c.lifetime time t.entries i) in
      let below : i < length swept-row = rw (length-sweep c.lifetime time t.entries, has.0.1) here.below in
      rw (here.kept s.freed has.0.2 (seen-freed c s time key n i t has)) (with-figure time swept-row i e (s.others + held_by e) below (rw beside))

-- ---- a piece that was lent

module _ (m : List ℕ) (n i : ℕ) where
  lent : i * n + n - i * n ≡ n
  lent = omega arith

  pub lent-piece : take (i * n + n - i * n) (drop (i * n) m) ≡ piece_of n i m
  unfolding piece_of part
  lent-piece = rw lent

  pub lent_length : i * n + n ≤ length m → length (take (i * n + n - i * n) (drop (i * n) m)) ≡ n
  lent_length h = ap length lent-piece ∙ length-piece n m i h

  pub lent_back : (p : List ℕ) → length p ≡ n → take (i * n) m ++ (p ++ drop (i * n + n - i * n) (drop (i * n) m)) ≡ put_piece n i p m
  unfolding put_piece
  lent_back p h = rw lent (patch-lent m (i * n) n p h)

-- ---- a call at its place, as the code makes it

module _ (c : Config) (t : Table) (u d : List ℕ) (time : ℕ) (row : List Entry) (i : ℕ) (e : Entry) (t' : Table) (s : BlockState) (p m : List ℕ) (a : Answer)
    (et : t' ≡ table_after row time i e.key s) where
  abbrev start : World
  start = world t u d

  pub asked-left : (q : Asked) (payload : List ℕ) → q.time ≡ time
      → left s p a ≡ step_with c (i * c.upload) (i * c.response) e.state (piece_of c.upload i u) q.bare q.block1 q.block2 payload
      → m ≡ put_piece c.upload i p u → done (world t' m d) a ≡ asked_at c start row i e q payload
  asked-left q payload on es em = rw on ((λ k. done (world (et k) (em k) d) a) ∙ ap (request_left c start time row i e.key) es)

  pub response-left : (r : Response) → left s p a ≡ step_response c e.state (piece_of c.response i d) r
      → m ≡ put_piece c.response i p d → done (world t' u m) a ≡ call_at c start time row i e (response r)
  unfolding call_at
  response-left r es em = (λ k. done (world (et k) u (em k)) a) ∙ ap (response_left c start time row i e.key) es

-- a request with its options read is the call
pub asked_is : (c : Config) (w : World) (row : List Entry) (i : ℕ) (e : Entry) (q : RequestNumbers) (block1 block2 payload : List ℕ) (a : Asked)
    → a ≡ asked_by c q block1 block2 → asked_at c w row i e a payload ≡ call_at c w q.time row i e (request (asking q block1 block2 payload))
unfolding call_at
asked_is c w row i e q block1 block2 payload a h =
    let piece = piece_of c.upload i w.upload in
    let read = step-read c (i * c.upload) (i * c.response) e.state piece q block1 block2 payload (asked_by c q block1 block2) refl in
    rw h (ap (request_left c w q.time row i e.key) read)
