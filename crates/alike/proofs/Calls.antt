-- SAME ANSWERS: any call tells the same of two worlds that are alike, and leaves them alike. Assumes nothing.
use Rattle.refusal.specs.declared.Refusal.TheVariants.{OffLimits, ClockBack, TableFull}
use Prim.Native.Nat.{ℕ, ◌*◌, ◌≤◌, ◌<◌}
use mathlib.Core.Bool.{true, not}
use mathlib.Core.Path.{◌≡◌, refl, sym, ap, ◌∙◌}
use mathlib.Core.List.{List}
use native.Mathlib.Omega.{arith}
use lib.ListN.{length}
use lib.Dec.{leb, ltb}
use borrow.Author.Tests.{not-false, ltb-false, leb-false, leb-true, eqb-true, eq-eqb}
use Rattle.refusal.specs.declared.Refusal.{Refusal}
use Rattle.pieces.specs.Memory.{piece_of}
use Rattle.pieces.proofs.Tests.{ands, and_both}
use Rattle.config.specs.declared.Config.{Config}
use Rattle.block_state.specs.declared.BlockState.{BlockState}
use Rattle.block_state.specs.declared.Answer.{Answer}
use Rattle.block_state.specs.declared.Answer.TheVariants.{Refused}
use Rattle.block_state.specs.Message.{What, request, response, WhatBytes}
use Rattle.block_state.proofs.Fits.{StateFits}
use Rattle.request_step.proofs.StepKeeps.{request-keeps}
use Rattle.response_step.proofs.StepKeeps.{response-keeps}
use Rattle.entries.specs.declared.Entry.{Entry}
use Rattle.block_table.proofs.TableFits.{table_fits, fits-table, row-length}
use Rattle.places.proofs.Put.{opened-fits}
use Rattle.judge.specs.Limits.{memories_ok}
use Rattle.call.specs.Call.{World, Call, Done, done, what_ok, within_limits, table_after, call_at, row_of, call}
use Rattle.call.specs.Contract.{world}
use Rattle.call.proofs.Frame.{WorldFits, key-within, call_fits}
use Rattle.one_call.proofs.Outcomes.{place_of, opened_of}
use Rattle.demands.specs.Demand3.{payload_of}
use Rattle.alike.specs.Alike.{InLimits, Alike, told, SameAnswers}
use Rattle.alike.proofs.Steps.{both-test, Like, request-like, response-like}
use Rattle.alike.proofs.Rows.{TwinAt, Rows, place_same, opened-twin, alike-rows, Puts, piece-long, puts, puts-nothing, set-rows, rows_alike}

-- ---- the limits, as the specification names them and as the laws of a call do

pub in-limits-fits : (c : Config) (w : World) → InLimits c w → WorldFits c w
unfolding memories_ok
in-limits-fits c w h =
    let m = h.memories in
    record {
      config = h.config;
      upload = eqb-true (length w.upload) (16 * c.upload) (search ands);
      response = eqb-true (length w.response) (16 * c.response) (search ands);
      sixteen = h.sixteen;
      table = table_fits c w.table h.table;
    }

pub fits-in-limits : (c : Config) (w : World) → WorldFits c w → InLimits c w
unfolding memories_ok
fits-in-limits c w f = record { config = f.config; memories = search (and_both, eq-eqb); sixteen = f.sixteen; table = fits-table c w.table f.table }

-- ---- what two calls tell and leave

abbrev Same : Config → Call → Done → Done → Type 0
Same c q d d' = (told q d ≡ told q d') × (InLimits c d.world → InLimits c d'.world → Alike c d.world d'.world)

module _ (c : Config) (w v : World) (q : Call) (a : Alike c w v) (bytes : WhatBytes q.what) where
  fits : WorldFits c w
  fits = in-limits-fits c w a.left

  fits' : WorldFits c v
  fits' = in-limits-fits c v a.right

  abbrev row : World → List Entry
  row x = row_of c x q

  long : (x : World) → WorldFits c x → length (row x) ≡ 16
  long x f = row-length c x.table q.time f.table f.sixteen

  abbrev here : ℕ
  here = place_of c w q

  refused : (n : Refusal) → Same c q (done w (Refused n)) (done v (Refused n))
  refused n = (refl, λ _ _. a)

  limits-same : within_limits c w q ≡ within_limits c v q
  unfolding within_limits
  limits-same = rw (a.left.memories, a.right.memories, a.left.table, a.right.table)

  module _ (later : w.table.clock ≤ q.time) where
    rows : Rows c w v (row w) (row v)
    rows = alike-rows c w v a q.time later

    place_is : here ≡ place_of c v q
    place_is = place_same c w v (row w) (row v) (long w fits ∙ sym (long v fits')) rows q.key

    twin : TwinAt c w v here (opened_of c w q) (opened_of c v q)
    twin = opened-twin c w v (row w) (row v) (long w fits ∙ sym (long v fits')) rows q.key

    module _ (slot : here < 16) where
      -- a world with this state put back at the key's place, and these memories
      abbrev left_by_lem : World → BlockState → List ℕ → List ℕ → World
      left_by_lem x s u d = world (table_after (row x) q.time here (opened_of c x q).key s) u d

      put_back : {s s' : BlockState} {b b' : Answer} {u u' d d' x x' y y' : List ℕ} → Like c here (payload_of q.what) s s' b b' u u' d d'
          → Puts c.upload here w.upload u x → Puts c.upload here v.upload u' x'
          → Puts c.response here w.response d y → Puts c.response here v.response d' y'
          → Same c q (done (left_by_lem w s x y) b) (done (left_by_lem v s' x' y') b')
      put_back {s} {s'} {x = x} {x' = x'} {y = y} {y' = y'} like pu pu' pd pd' =
          let body = like.shown.body x x' pu.here pu'.here in
          let head = like.shown.head y y' pd.here pd'.here in
          let chunk = like.shown.chunk y y' pd.here pd'.here in (
            rw (← like.answer) (rw (body, head, chunk)),
            rows_alike c (left_by_lem w s x y) (left_by_lem v s' x' y') refl
                (set-rows c w v (left_by_lem w s x y) (left_by_lem v s' x' y') (row w) (row v) here rows (omega (arith, long w fits)) (omega (arith, long v fits'))
                (record { used = refl; long = twin.long; key = twin.key; touched = refl; state = like.state; holds = like.holds }) pu pu' pd pd'),
          )

      module _ (ok : StateFits c (opened_of c w q).state) where
        ok' : StateFits c (opened_of c v q).state
        ok' = rw (← twin.state) ok

        size : (n : ℕ) (m : List ℕ) → length m ≡ 16 * n → length (piece_of n here m) ≡ n
        size n m = piece-long n here m slot

        -- a request puts back its piece of the upload memory, a response that of the other
        placed : (x : What) → q.what ≡ x → WhatBytes x → what_ok x ≡ true
            → Same c q (call_at c w q.time (row w) here (opened_of c w q) x) (call_at c v q.time (row v) here (opened_of c v q) x)
        unfolding call_at what_ok
        placed (request r) is hb _ =
            put_back (rw (is, ← twin.state) (request-like c here (opened_of c w q).state _ _ _ _ r ok (size c.upload w.upload fits.upload) twin.holds))
            (puts c.upload here w.upload slot fits.upload _ (request-keeps c _ _ _ _ r hb.0 hb.1 ok (size c.upload w.upload fits.upload)).piece)
            (puts c.upload here v.upload slot fits'.upload _ (request-keeps c _ _ _ _ r hb.0 hb.1 ok' (size c.upload v.upload fits'.upload)).piece)
            (puts-nothing c.response here w.response slot fits.response) (puts-nothing c.response here v.response slot fits'.response)
        placed (response r) is _ limits =
            let most : length r.head ≤ 128 = leb-true (length r.head) 128 (search ands) in
            put_back (rw (is, ← twin.state) (response-like c here (opened_of c w q).state _ _ _ _ r twin.holds))
            (puts-nothing c.upload here w.upload slot fits.upload) (puts-nothing c.upload here v.upload slot fits'.upload)
            (puts c.response here w.response slot fits.response _ (response-keeps c _ _ r most ok (size c.response w.response fits.response)).piece)
            (puts c.response here v.response slot fits'.response _ (response-keeps c _ _ r most ok' (size c.response v.response fits'.response)).piece)

  what-within : within_limits c w q ≡ true → what_ok q.what ≡ true
  unfolding within_limits
  what-within h = search ands

  same-call : Same c q (call c w q) (call c v q)
  unfolding call
  same-call =
      both-test (Same c q) (not (within_limits c w q)) (not (within_limits c v q)) (ap not limits-same) (λ _. refused OffLimits)
      (λ within.
      let ok : within_limits c w q ≡ true = not-false (within_limits c w q) within in
      both-test (Same c q) (ltb q.time w.table.clock) (ltb q.time v.table.clock) (ap (ltb q.time) a.clock) (λ _. refused ClockBack)
      (λ time.
      let later : w.table.clock ≤ q.time = ltb-false q.time w.table.clock time in
      both-test (Same c q) (leb 16 here) (leb 16 (place_of c v q)) (ap (leb 16) (place_is later)) (λ _. refused TableFull)
      (λ room.
      let slot : here < 16 = leb-false 16 here room in
      let state-fits = (opened-fits c w.table q.time fits.table fits.sixteen later q.key (key-within c w q ok) slot).state in
      rw (← (place_is later)) (placed later slot state-fits q.what refl bytes (what-within ok)))))

-- SAME ANSWERS
pub same-answers : SameAnswers call
unfolding SameAnswers
same-answers c w v q a bytes =
    let s = same-call c w v q a bytes in
    let kept : (x : World) → InLimits c x → InLimits c (call c x q).world = λ x h. fits-in-limits c _ (call_fits c x q bytes (in-limits-fits c x h)) in
    (s.0, s.1 (kept w a.left) (kept v a.right))
