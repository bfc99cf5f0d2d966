use mathlib.Core.Path.{◌≡◌, refl, ◌∙◌}
use Prim.Native.Nat.{ℕ, ◌≤◌}
use native.Mathlib.Omega.{arith}
use lib.ListN.{length}
use Rattle.block_table.specs.declared.Table.{Table}
use Rattle.entries.specs.Entries.{sweep}
use Rattle.places.specs.Places.{opened}
use Rattle.keys.specs.Keys.{Name}
use Rattle.judge.specs.Verdict.{lengths}
use Rattle.judge.proofs.Judged.{AtPlace, at_place}
use Rattle.call.specs.Contract.{PlacedAt}
use Rattle.call.proofs.Meanings.{opened-at, changed-at, lent-piece, lent_length, lent_back, asked-left}
use Rattle.request_call.proofs.request_at.Goals as goal

pub overflow_mul-home : goal.overflow_mul-home
overflow_mul-home c =
    let placed : AtPlace c.args.config c.requires.2 c.args.asked.time c.requires.0 (lengths (length c.args.upload.now) c.requires.1 c.args.asked.bare (length c.args.payload.now) 0) c.args.i =
    at_place _ _ _ _ _ _ c.requires.3.1.1 in
    omega (arith, placed)

pub overflow_mul-away : goal.overflow_mul-away
overflow_mul-away c =
    let placed : AtPlace c.args.config c.requires.2 c.args.asked.time c.requires.0 (lengths (length c.args.upload.now) c.requires.1 c.args.asked.bare (length c.args.payload.now) 0) c.args.i =
    at_place _ _ _ _ _ _ c.requires.3.1.1 in
    omega (arith, placed)

pub overflow_add-end : goal.overflow_add-end
overflow_add-end c =
    let placed : AtPlace c.args.config c.requires.2 c.args.asked.time c.requires.0 (lengths (length c.args.upload.now) c.requires.1 c.args.asked.bare (length c.args.payload.now) 0) c.args.i =
    at_place _ _ _ _ _ _ c.requires.3.1.1 in
    omega (arith, placed)

pub slice_bounds-step_request-end : goal.slice_bounds-step_request-end
slice_bounds-step_request-end c =
    let placed : AtPlace c.args.config c.requires.2 c.args.asked.time c.requires.0 (lengths (length c.args.upload.now) c.requires.1 c.args.asked.bare (length c.args.payload.now) 0) c.args.i =
    at_place _ _ _ _ _ _ c.requires.3.1.1 in
    omega (arith, placed)

pub step_request-step-requires : goal.step_request-step-requires
step_request-step-requires c =
    let placed : AtPlace c.args.config c.requires.2 c.args.asked.time c.requires.0 (lengths (length c.args.upload.now) c.requires.1 c.args.asked.bare (length c.args.payload.now) 0) c.args.i =
    at_place _ _ _ _ _ _ c.requires.3.1.1 in
    let entry-is : (k : Name) (v : ℕ) (t : Table)
    → PlacedAt c.args.config c.args.sight c.args.key c.args.asked.time
    (lengths (length c.args.upload.now) v c.args.asked.bare (length c.args.payload.now) 0) c.args.i k t
    → c.opened_entry-e.result ≡ opened k (sweep c.args.config.lifetime c.args.asked.time t.entries) =
    λ k v t has. c.opened_entry-e.ensures ∙ opened-at _ _ _ _ _ _ t has.1 _ has.0 in
    let holds : c.opened_entry-e.result.state.assembled.len ≤ c.args.config.upload =
    rw (entry-is c.requires.0 c.requires.1 c.requires.2 c.requires.3) (placed.holds c.requires.3.1.0.1) in
    let p = placed in
    let long = lent_length c.args.upload.now c.args.config.upload c.args.i p.up in
    record { size = long; small = omega arith; holds = rw long holds; home = omega arith; away = omega arith }

pub returns : goal.returns
returns c =
    let entry-is : (k : Name) (v : ℕ) (t : Table)
    → PlacedAt c.args.config c.args.sight c.args.key c.args.asked.time
    (lengths (length c.args.upload.now) v c.args.asked.bare (length c.args.payload.now) 0) c.args.i k t
    → c.opened_entry-e.result ≡ opened k (sweep c.args.config.lifetime c.args.asked.time t.entries) =
    λ k v t has. c.opened_entry-e.ensures ∙ opened-at _ _ _ _ _ _ t has.1 _ has.0 in
    let m = c.args.upload.now in
    let n = c.args.config.upload in
    λ k v t has d.
    let is = entry-is k v t has in
    let p = at_place _ t _ _ _ _ has.1.1 in
    let row = sweep c.args.config.lifetime c.args.asked.time t.entries in
    rw c.leave.ensures
    (asked-left c.args.config t m d c.args.asked.time row c.args.i (opened k row) _ c.step_request-step.result.state c.step_request-step.new.piece _ c.step_request-step.result.answer
    (rw is (changed-at _ _ _ _ _ _ t has.1 _ c.step_request-step.result)) c.args.asked c.args.payload.now refl
    (rw (is, lent-piece m n c.args.i) at c.step_request-step.ensures)
    (lent_back m n c.args.i _ (c.step_request-step.auto.piece ∙ lent_length m n c.args.i p.up)))
