-- THE LAST BLOCK SENT TWICE, in both modes. Assumes nothing.
use Rattle.std.specs.Prelude.{None, Ok}
use Prim.Native.Nat.{ℕ, zero, suc, ◌+◌, ◌-◌, ◌*◌, ◌≤◌, ◌<◌}
use mathlib.Core.Bool.{true, false}
use mathlib.Core.Path.{◌≡◌, refl, sym, ◌∙◌, ap, subst}
use mathlib.Core.Logic.{inl}
use mathlib.Core.List.{List, [], ◌∷◌, ◌++◌, map, append-nil}
use native.Mathlib.Nat.{zero-add}
use native.Mathlib.Omega.{arith}
use lib.ListN.{length, take, replicate, length-append, length-replicate, drop_of_length-le}
use lib.Seq.{take_all}
use Rattle.refusal.specs.declared.Refusal.{Refusal}
use Rattle.refusal.specs.declared.Refusal.TheVariants.{Jump, NotNext}
use Rattle.pieces.specs.Memory.{patch, piece_of}
use Rattle.pieces.proofs.Memory.{piece-order}
use Rattle.pieces.proofs.Tests.{clash-of}
use Rattle.splicing.specs.Splice.{spliced, spliced_length, piece_after}
use Rattle.splicing.proofs.Splicing as splicing
use Rattle.block_value.specs.Value.{size_of, block_size, block_start}
use Rattle.block_value.specs.declared.BlockValue.{BlockValue}
use Rattle.block_value.proofs.Laws.{size-least}
use Rattle.config.specs.declared.Config.{Config}
use Rattle.block_state.specs.declared.BlockState.{BlockState}
use Rattle.block_state.specs.declared.Answer.TheVariants.{Handed, Refused}
use Rattle.block_state.specs.Message.{Request, request, WhatBytes}
use Rattle.block_state.specs.State.{assembly, with_assembled, with_recorded}
use Rattle.block_state.specs.Step.{left, bytes_from}
use Rattle.request_block1.specs.Block1.{not_next, length_met}
use Rattle.request_step.specs.Step.{step_request}
use Rattle.keys.specs.Keys.{Name, key_ok}
use Rattle.entries.specs.declared.Entry.{Entry}
use Rattle.block_table.proofs.TableFits.{row}
use Rattle.key_place.specs.Place.{place}
use Rattle.places.specs.Places.{opened}
use Rattle.call.specs.Call.{World, Call, what_ok, call}
use Rattle.call.proofs.Frame.{WorldFits, fits-limits, key-within, request-took, call_fits}
use Rattle.one_call.specs.Handler.{entry_at}
use Rattle.one_call.specs.Touch.{Placed, RefusesTo}
use Rattle.one_call.proofs.Checks.{misplaced-is, first-starts, starts_first, meets-all}
use Rattle.one_call.proofs.Step.{step-astray, step-unspliced, step-last}
use Rattle.one_call.proofs.Touch.{refused-touches}
use Rattle.demands.specs.Demand3.{after, Sent, call_on, block, Each, Fills, joined, All, AllBytes, last_of}
use Rattle.demands.specs.Falling.{start_of}
use Rattle.demands.specs.Clocks.{requests_on}
use Rattle.demands.proofs.OwnStep.{OneBlock, form-ok, meets-first, held_after, own-last}
use Rattle.demands.proofs.Runs.{asks-own, all-behind, after-cut, cut, after-clock}
use Rattle.demands.proofs.Held.{Held, held_place, held-opened, held-others}
use Rattle.demands.proofs.Push.{message-ok, shown-part, Pushed, BlockAt, each-block, each_last}
use Rattle.demands.proofs.Demand3.{pushed}
use Rattle.many_calls.specs.Twice.{HandsTo, SentAgain, Twice}

-- ---- the step of the last block on an entry with nothing assembled

module _ (c : Config) (home away : ℕ) (s : BlockState) (u : List ℕ) (r : Request) (b : BlockValue) (one : OneBlock c b r) (none : s.assembled ≡ assembly 0 0) where
  abbrev start : ℕ
  start = block_start b

  abbrev p : ℕ
  p = length r.payload

  -- strict, not block 0: it is not the next
  again-strict : c.strict ≡ true → (b.num ≡ 0 → ⊥) → step_request c home away s u r ≡ left s u (Refused NotNext)
  again-strict strict other =
      let astray : not_next s.assembled b ≡ true = rw none (misplaced-is (assembly 0 0) b (other, inl (λ start. other (starts_first b start)))) in
      step-astray c home away s u r b one.reply one.numbered one.agreed (form-ok c b r one) (rw (strict, astray))

  module _ (plain : c.strict ≡ false) where
    met : length_met c.strict s.assembled b ≡ 0
    met = meets-all c.strict s.assembled b (λ strict. absurd (clash-of c.strict strict plain)) ∙ rw none

    again-far : 16384 < start + block_size b → step_request c home away s u r ≡ left s u (Refused Jump)
    again-far far =
        step-unspliced c home away s u r b one.reply one.numbered one.agreed (form-ok c b r one) (rw plain) 0 met Jump
        (splicing.too_far c.upload 0 start (block_size b) p (omega arith))

    abbrev zeros : List ℕ
    zeros = replicate start 0 ++ r.payload

    with-zeros : piece_after u 0 start (block_size b) r.payload ≡ patch u 0 zeros
    unfolding piece_after spliced
    with-zeros =
        let z : start - length {A = ℕ} (take 0 u) ≡ start = omega arith in
        rw (z, take_all start (take 0 u) (omega arith), drop_of_length-le (take 0 u) {i = start + block_size b} (omega arith), append-nil zeros)

    again-zeros : b.more ≡ false → start + block_size b ≤ 16384 → start + p ≤ c.upload
        → step_request c home away s u r
        ≡ left (with_recorded (with_assembled s (assembly 0 0)) None) (patch u 0 zeros) (Handed one.reply (bytes_from home (length zeros)))
    again-zeros last near fits =
        let n : spliced_length 0 start (block_size b) p ≡ length zeros =
        rw (length-append (replicate start 0) r.payload, length-replicate {A = ℕ} start 0) (omega arith) in
        step-last c home away s u r b one.reply one.numbered one.agreed (form-ok c b r one) (rw plain) 0 met (length zeros) (patch u 0 zeros)
        (splicing.taken c.upload 0 start (block_size b) p (omega arith) (omega arith) ∙ ap Ok n) with-zeros last one.alone

-- ---- the call that brings it again

joined_length : (x : ℕ → ℕ) (j : ℕ) (s : Sent) (rest : List Sent) → Each (λ j more r. Fills more (length r.payload) (size_of (x j))) j s rest
    → start_of x j + length (joined s rest) ≡ start_of x (j + length rest) + length (last_of s rest).message.payload
joined_length x j s [] e =
    let z : j + 0 ≡ j = omega arith in
    rw z
joined_length x j s (t ∷ rest) e =
    let z : j + suc (length rest) ≡ suc j + length rest = omega arith in
    let n : length (joined s (t ∷ rest)) ≡ length s.message.payload + length (joined t rest) = length-append s.message.payload (joined t rest) in
    rw z (omega (arith, joined_length x (suc j) t rest e.1, e.0))

-- a block with another before it starts past 0
start-least : (x : ℕ → ℕ) (j : ℕ) → 1 ≤ j → 16 ≤ start_of x j
start-least x zero h = absurd (omega arith)
start-least x (suc j) h = omega (arith, size-least (x j))

-- the last block's options are bytes, since all calls' are
module _ (k : Name) where
  last-bytes : (s : Sent) (rest : List Sent) (calls : List Call) → requests_on k calls ≡ map (call_on k) rest → AllBytes (call_on k s ∷ calls)
      → WhatBytes (request (last_of s rest).message)
  last-bytes s [] calls own ab = ab.0
  last-bytes s (t ∷ rest) calls own ab =
      let z = cut k calls (call_on k t) (map (call_on k) rest) own in
      last-bytes t rest z.behind z.left (all-behind _ z.before (call_on k t ∷ z.behind) (subst AllBytes z.is ab.1))

module _ (c : Config) (w : World) (k : Name) (x : ℕ → ℕ) (first : Sent) (rest : List Sent) (later : List Call) (again : Sent)
    (a : SentAgain c w k x first rest later again) where
  abbrev then : World
  then = after call c w (call_on k first ∷ later)

  abbrev last : Sent
  last = last_of first rest

  abbrev q : Call
  q = call_on k again

  abbrev found : List Entry
  found = row c then.table again.time

  abbrev here : ℕ
  here = place k found

  abbrev piece : List ℕ
  piece = piece_of c.upload here then.upload

  abbrev from : BlockState
  from = (opened k found).state

  abbrev j : ℕ
  j = length rest

  abbrev ended : Pushed c w k last.time (length (first ∷ rest)) (joined first rest) [] (call_on k first ∷ later)
  ended = pushed c w k x first rest later a.blocks a.granted

  named : key_ok k ≡ true
  named = key-within c w (call_on k first) a.granted.within.limits

  -- the calls behind the last block are other keys', and leave its entry as it was
  settled : Held c then k ended.slot last.time × ((entry_at then ended.slot).state.assembled ≡ assembly 0 0)
  settled =
      let nl = all-behind _ ended.front ended.behind (subst (All (λ q. q.time ≤ again.time)) ended.is a.clock) in
      let ab = all-behind _ ended.front ended.behind (subst AllBytes ended.is a.granted.within.bytes) in
      let u = held-others c k ended.slot last.time again.time a.soon ended.behind (after call c w ended.front) ended.settled ab nl ended.own in
      subst (λ (v : World). Held c v k ended.slot last.time × ((entry_at v ended.slot).state.assembled ≡ assembly 0 0))
      (sym (after-cut call c ended.front ended.behind w) ∙ ap (after call c w) (sym ended.is))
      (u.1, u.0.assembled ∙ ended.empty)

  fits : WorldFits c then
  fits = settled.0.fits

  in-time : then.table.clock ≤ again.time
  in-time = after-clock c again.time (call_on k first ∷ later) w (omega (arith, a.granted.clock.0 (asks-own k first), a.clock.0)) a.clock

  in_place : here < 16
  in_place = rw (held_place c then k ended.slot last.time settled.0 again.time a.soon) settled.0.slot

  none : from.assembled ≡ assembly 0 0
  none = ap (λ (e : Entry). e.state.assembled) (held-opened c then k ended.slot last.time settled.0 again.time a.soon) ∙ settled.1

  its : BlockAt c x j false again.message
  its =
      let z : 0 + length rest ≡ length rest = zero-add (length rest) in
      rw a.same (rw z at (each_last (BlockAt c x) 0 first rest (each-block c x first rest a.blocks)))

  abbrev b : BlockValue
  b = block its.0 false (x j)

  starts : block_start b ≡ start_of x j
  starts = its.1

  one : OneBlock c b again.message
  one = its.2

  options : WhatBytes (request again.message)
  options = rw a.same (last-bytes k first rest later a.granted.own a.granted.within.bytes)

  body-fits : start_of x j + length again.message.payload ≤ c.upload
  body-fits =
      let z : 0 + length rest ≡ length rest = zero-add (length rest) in
      let long = rw z at (joined_length x 0 first rest a.blocks.full) in
      rw a.same (omega (arith, long, a.blocks.fits))

  ok : what_ok (request again.message) ≡ true
  ok = message-ok c again.message b fits.config one

  abbrev home : ℕ
  home = here * c.upload

  abbrev away : ℕ
  away = here * c.response

  refuses : (n : Refusal) → step_request c home away from piece again.message ≡ left from piece (Refused n)
      → RefusesTo n call c then q
  refuses n step =
      let placed : Placed c then q = record { limits = fits-limits c then q fits named ok; sixteen = fits.sixteen; clock = in-time; place = in_place } in
      refused-touches c then q placed again.message refl n step

  -- a step that puts a body at the start of its piece and names it shows it
  hands : (bytes : List ℕ) (y : BlockState) → length bytes ≤ c.upload
      → step_request c home away from piece again.message ≡ left y (patch piece 0 bytes) (Handed one.reply (bytes_from home (length bytes)))
      → HandsTo bytes call c then q
  hands bytes y fit step =
      let t = rw step at (request-took c then q fits named in-time in_place again.message refl options ok) in
      let v : World = (call c then q).world in
      let f = call_fits c then q options fits in
      let in-upload : home + c.upload ≤ length v.upload = omega (arith, f.upload, piece-order here 16 c.upload in_place) in (
        rw t.answer,
        rw t.answer (shown-part v.upload c.upload here (length bytes) in-upload fit ∙ ap (take (length bytes)) t.piece ∙ held_after piece bytes),
      )

  -- what the entry is left with
  abbrev handed : BlockState
  handed = with_recorded (with_assembled from (assembly 0 0)) None

  refused-strict : c.strict ≡ true → 1 ≤ j → RefusesTo NotNext call c then q
  refused-strict strict h =
      refuses NotNext (again-strict c home away from piece again.message b one none strict (λ e. omega (arith, starts, first-starts b e, start-least x j h)))

  handed-one : start_of x j ≡ 0 → HandsTo again.message.payload call c then q
  handed-one first =
      let meets = meets-first c from.assembled piece b (starts_first b (starts ∙ first)) (λ plain. rw none) in
      hands again.message.payload handed (omega (arith, body-fits))
      (own-last c home away from piece again.message b one [] meets (omega (arith, body-fits)) refl)

  refused-far : c.strict ≡ false → 16384 < start_of x (length (first ∷ rest)) → RefusesTo Jump call c then q
  refused-far plain h = refuses Jump (again-far c home away from piece again.message b one none plain (omega (arith, starts)))

  handed-zeros : c.strict ≡ false → start_of x (length (first ∷ rest)) ≤ 16384 → HandsTo (replicate (start_of x j) 0 ++ last.message.payload) call c then q
  handed-zeros plain h =
      let body : List ℕ = replicate (block_start b) 0 ++ again.message.payload in
      let n : length body ≡ block_start b + length again.message.payload =
      length-append (replicate (block_start b) 0) again.message.payload ∙ rw (length-replicate {A = ℕ} (block_start b) 0) in
      rw (← a.same, ← starts)
      (hands body handed (omega (arith, body-fits, starts))
      (again-zeros c home away from piece again.message b one none plain refl (omega (arith, starts)) (omega (arith, starts, body-fits))))

-- THE LAST BLOCK SENT TWICE
pub twice : Twice call
twice =
    record {
      strict_many = λ c w k x first second rest later again strict a. refused-strict c w k x first (second ∷ rest) later again a strict (omega arith);
      strict_one = λ c w k x first later again strict a.
          let h = handed-one c w k x first [] later again a refl in
          (h.0, h.1 ∙ ap (λ (r : Request). r.payload) a.same);
      plain_zeros = λ c w k x first rest later again plain a h. handed-zeros c w k x first rest later again a plain h;
      plain_far = λ c w k x first rest later again plain a h. refused-far c w k x first rest later again a plain h;
    }
