-- Laws of a call: it is refused or has its place; it keeps the limits; a call for another key keeps a live entry and both its pieces; a
-- request at its key's place is its step. Assumes nothing.
use Rattle.refusal.specs.declared.Refusal.TheVariants.{OffLimits, ClockBack, TableFull}
use Prim.Native.Nat.{ℕ, ◌+◌, ◌*◌, ◌≤◌, ◌<◌}
use mathlib.Core.Bool.{Bool, true, false, not}
use mathlib.Core.Path.{◌≡◌, refl, sym, ◌∙◌}
use mathlib.Core.Logic.{◌≢◌}
use mathlib.Core.List.{List}
use native.Mathlib.Omega.{arith}
use lib.ListN.{length, length-set}
use lib.Dec.{leb, ltb}
use borrow.Author.Tests.{ltb-false, leb-false, eqb-true, le-ltb, lt-leb, eq-eqb, leb-true}
use Rattle.refusal.specs.declared.Refusal.{Refusal}
use Rattle.pieces.specs.Memory.{piece_of}
use Rattle.pieces.proofs.Memory.{piece-order, length-piece, length-put, piece-put-same, piece-put-other}
use Rattle.config.specs.declared.Config.{Config}
use Rattle.block_state.specs.declared.Answer.TheVariants.{Refused}
use Rattle.block_state.specs.Message.{Request, Response, What, request, response, WhatBytes}
use Rattle.block_state.specs.Step.{Left}
use Rattle.request_step.specs.Step.{step_request}
use Rattle.response_step.specs.Step.{step_response}
use Rattle.pieces.proofs.Tests.{ands, and_both, on_test}
use Rattle.block_state.proofs.Fits.{StateFits}
use Rattle.block_state.proofs.StepKeeps.{Keeps}
use Rattle.request_step.proofs.StepKeeps.{request-keeps}
use Rattle.response_step.proofs.StepKeeps.{response-keeps}
use Rattle.keys.specs.declared.Key.{Key}
use Rattle.entries.specs.declared.Entry.{Entry}
use Rattle.keys.specs.Keys.{same, key_ok}
use Rattle.entries.specs.Entries.{in_use, holds, live}
use Rattle.block_table.specs.Table.{table_ok, at}
use Rattle.key_place.specs.Place.{place}
use Rattle.places.specs.Places.{opened}
use Rattle.block_table.proofs.Row.{at_set_same, at_set_other}
use Rattle.places.proofs.Places.{elsewhere}
use Rattle.block_table.proofs.TableFits.{TableFits, table_fits, fits-table, row-length, row-live}
use Rattle.places.proofs.Put.{opened-fits, put-fits}
use Rattle.judge.specs.Limits.{config_ok, memories_ok}
use Rattle.call.specs.Call.{World, Call, Done, done, what_ok, within_limits, call_at, row_of, call}

-- the limits of what one call hands on to the next
pub record WorldFits (c : Config) (w : World) : Type 0 where
  pub config : config_ok c ≡ true
  pub upload : length w.upload ≡ 16 * c.upload
  pub response : length w.response ≡ 16 * c.response
  pub sixteen : length w.table.entries ≡ 16
  pub table : TableFits c w.table

pub world-fits : (c : Config) (w : World) (q : Call) → within_limits c w q ≡ true → length w.table.entries ≡ 16 → WorldFits c w
unfolding within_limits memories_ok
world-fits c w q h sixteen =
    record {
      config = search ands;
      upload = eqb-true (length w.upload) (16 * c.upload) (search ands);
      response = eqb-true (length w.response) (16 * c.response) (search ands);
      sixteen = sixteen;
      table = table_fits c w.table (search ands);
    }

pub fits-limits : (c : Config) (w : World) (q : Call) → WorldFits c w → key_ok q.key ≡ true → what_ok q.what ≡ true → within_limits c w q ≡ true
unfolding within_limits memories_ok
fits-limits c w q f named ok =
    let t : table_ok c w.table ≡ true = fits-table c w.table f.table in
    search (and_both, eq-eqb)

pub key-within : (c : Config) (w : World) (q : Call) → within_limits c w q ≡ true → key_ok q.key ≡ true
unfolding within_limits
key-within c w q h = search ands

-- entry i and both its pieces are as they were
pub record Undisturbed (c : Config) (w v : World) (i : ℕ) : Type 0 where
  pub entry : at v.table.entries i ≡ at w.table.entries i
  pub upload : piece_of c.upload i v.upload ≡ piece_of c.upload i w.upload
  pub response : piece_of c.response i v.response ≡ piece_of c.response i w.response

-- what a request's step left stands at entry i and in its piece, and is answered
pub record Took (c : Config) (d : Done) (i time : ℕ) (key : Key) (g : Left) : Type 0 where
  pub entry : at d.world.table.entries i ≡ in_use key time g.state
  pub piece : piece_of c.upload i d.world.upload ≡ g.piece
  pub clock : d.world.table.clock ≡ time
  pub answer : d.answer ≡ g.answer

-- a call is refused with nothing changed, or is made at its place
pub call-cases : (P : Done → Type 0) (c : Config) (w : World) (q : Call) → ((n : Refusal) → P (done w (Refused n)))
    → (key_ok q.key ≡ true → what_ok q.what ≡ true → w.table.clock ≤ q.time → place q.key (row_of c w q) < 16
    → P (call_at c w q.time (row_of c w q) (place q.key (row_of c w q)) (opened q.key (row_of c w q)) q.what))
    → P (call c w q)
unfolding call within_limits
call-cases P c w q nay aye =
    on_test P (not (within_limits c w q)) (λ _. nay OffLimits)
    (λ ok.
    let h : within_limits c w q ≡ true = not-not (within_limits c w q) ok in
    on_test P (ltb q.time w.table.clock) (λ _. nay ClockBack)
    (λ time. on_test P (leb 16 (place q.key (row_of c w q))) (λ _. nay TableFull)
    (λ room. aye (search ands) (search ands) (ltb-false q.time w.table.clock time) (leb-false 16 (place q.key (row_of c w q)) room))))
  where
    not-not : (b : Bool) → not b ≡ false → b ≡ true
    not-not true e = refl
    not-not false e = sym e

module _ (c : Config) (w : World) (q : Call) (f : WorldFits c w) where
  abbrev row : List Entry
  row = row_of c w q

  abbrev here : ℕ
  here = place q.key row

  abbrev entry : Entry
  entry = opened q.key row

  row-16 : length row ≡ 16
  row-16 = row-length c w.table q.time f.table f.sixteen

  module _ (named : key_ok q.key ≡ true) (later : w.table.clock ≤ q.time) (p : here < 16) where
    pub call-placed : what_ok q.what ≡ true → call c w q ≡ call_at c w q.time row here entry q.what
    unfolding call
    call-placed ok = rw (fits-limits c w q f named ok, le-ltb q.time w.table.clock later, lt-leb 16 here p)

    in_row : here < length row
    in_row = omega (arith, row-16)

    in-upload : here * c.upload + c.upload ≤ length w.upload
    in-upload = omega (arith, f.upload, piece-order here 16 c.upload p)

    in-response : here * c.response + c.response ≤ length w.response
    in-response = omega (arith, f.response, piece-order here 16 c.response p)

    fits-here : StateFits c entry.state
    fits-here = (opened-fits c w.table q.time f.table f.sixteen later q.key named p).state

    request-leaves : (r : Request) → WhatBytes (request r)
        → Keeps c c.upload (step_request c (here * c.upload) (here * c.response) entry.state (piece_of c.upload here w.upload) r)
    request-leaves r b =
        request-keeps c (here * c.upload) (here * c.response) entry.state (piece_of c.upload here w.upload) r b.0 b.1 fits-here
        (length-piece c.upload w.upload here in-upload)

    response-leaves : (r : Response) → what_ok (response r) ≡ true
        → Keeps c c.response (step_response c entry.state (piece_of c.response here w.response) r)
    unfolding what_ok
    response-leaves r ok =
        response-keeps c entry.state (piece_of c.response here w.response) r (leb-true (length r.head) 128 (search ands)) fits-here
        (length-piece c.response w.response here in-response)

    placed-fits : (x : What) → WhatBytes x → what_ok x ≡ true → WorldFits c (call_at c w q.time row here entry x).world
    unfolding call_at
    placed-fits (request r) b ok =
        let g = request-leaves r b in
        record {
          config = f.config;
          upload = length-put c.upload w.upload here in-upload _ g.piece ∙ f.upload;
          response = f.response;
          sixteen = length-set row here _ ∙ row-16;
          table = put-fits c w.table q.time f.table f.sixteen later q.key named p _ g.state;
        }
    placed-fits (response r) b ok =
        let g = response-leaves r ok in
        record {
          config = f.config;
          upload = f.upload;
          response = length-put c.response w.response here in-response _ g.piece ∙ f.response;
          sixteen = length-set row here _ ∙ row-16;
          table = put-fits c w.table q.time f.table f.sixteen later q.key named p _ g.state;
        }

    placed-keeps : (k : List ℕ) (i : ℕ) → same k q.key ≡ false → holds k (at w.table.entries i) ≡ true
        → live c.lifetime q.time (at w.table.entries i) ≡ true → (x : What) → WhatBytes x → what_ok x ≡ true
        → Undisturbed c w (call_at c w q.time row here entry x).world i
    unfolding call_at
    placed-keeps k i other held lives =
        let stays : at row i ≡ at w.table.entries i = row-live c w.table q.time f.table f.sixteen i lives in
        let away : i ≢ here = elsewhere q.key row row-16 k other i (rw stays held) in
        let ne : here ≡ i → ⊥ = λ e. away (sym e) in λ x.
        elim x as (λ y. WhatBytes y → what_ok y ≡ true → Undisturbed c w (call_at c w q.time row here entry y).world i) [
          | request r ↦ λ b ok. record {
            entry = at_set_other row here _ in_row i away ∙ stays;
            upload = piece-put-other c.upload w.upload here in-upload _ (request-leaves r b).piece i ne;
            response = refl;
          }
          | response r ↦ λ b ok. record {
            entry = at_set_other row here _ in_row i away ∙ stays;
            upload = refl;
            response = piece-put-other c.response w.response here in-response _ (response-leaves r ok).piece i ne;
          }
        ]

    -- A REQUEST AT ITS KEY'S PLACE is its step
    pub request-took : (r : Request) → q.what ≡ request r → WhatBytes (request r) → what_ok (request r) ≡ true
        → Took c (call c w q) here q.time entry.key
        (step_request c (here * c.upload) (here * c.response) entry.state (piece_of c.upload here w.upload) r)
    unfolding call_at
    request-took r e b ok =
        rw (call-placed (rw e ok), e)
        (record {
          entry = at_set_same row here _ in_row;
          piece = piece-put-same c.upload w.upload here in-upload _ (request-leaves r b).piece;
          clock = refl;
          answer = refl;
        })

-- THE LIMITS ARE KEPT, whatever the call
pub call_fits : (c : Config) (w : World) (q : Call) → WhatBytes q.what → WorldFits c w → WorldFits c (call c w q).world
call_fits c w q b f =
    call-cases (λ d. WorldFits c d.world) c w q (λ n. f) (λ named ok later p. placed-fits c w q f named later p q.what b ok)

-- A CALL FOR ANOTHER KEY keeps a live entry and both its pieces
pub other-keeps : (c : Config) (w : World) (q : Call) (k : List ℕ) (i : ℕ) → WhatBytes q.what → WorldFits c w → same k q.key ≡ false
    → holds k (at w.table.entries i) ≡ true → live c.lifetime q.time (at w.table.entries i) ≡ true
    → Undisturbed c w (call c w q).world i
other-keeps c w q k i b f other held lives =
    call-cases (λ d. Undisturbed c w d.world i) c w q (λ n. record { entry = refl; upload = refl; response = refl })
    (λ named ok later p. placed-keeps c w q f named later p k i other held lives q.what b ok)

-- no call sets the clock past its own time, where the clock has not passed it
pub clock-most : (c : Config) (w : World) (q : Call) → w.table.clock ≤ q.time → (call c w q).world.table.clock ≤ q.time
unfolding call_at
clock-most c w q h =
    call-cases (λ d. d.world.table.clock ≤ q.time) c w q (λ n. h) (λ named ok later p. placed q.what)
  where
    placed : (x : What) → (call_at c w q.time (row_of c w q) (place q.key (row_of c w q)) (opened q.key (row_of c w q)) x).world.table.clock ≤ q.time
    placed (request r) = omega arith
    placed (response r) = omega arith
