-- A call that has its place, and whose step is refused and leaves state and piece, changes nothing but the touch. Assumes nothing.
use Prim.Native.Nat.{ℕ, ◌+◌, ◌*◌, ◌≤◌}
use mathlib.Core.Path.{◌≡◌, refl}
use mathlib.Core.List.{List}
use native.Mathlib.Omega.{arith}
use lib.ListN.{length}
use Rattle.refusal.specs.declared.Refusal.{Refusal}
use Rattle.pieces.specs.Memory.{piece_of, put_piece}
use Rattle.pieces.proofs.Memory.{piece-order, patch-self}
use Rattle.pieces.proofs.Tests.{ands}
use Rattle.config.specs.declared.Config.{Config}
use Rattle.block_state.specs.declared.BlockState.{BlockState}
use Rattle.block_state.specs.declared.Answer.TheVariants.{Refused}
use Rattle.block_state.specs.Message.{Request, Response, request, response}
use Rattle.block_state.specs.Step.{left}
use Rattle.request_step.specs.Step.{step_request}
use Rattle.response_step.specs.Step.{step_response}
use Rattle.entries.specs.declared.Entry.{Entry}
use Rattle.key_place.specs.Place.{place}
use Rattle.places.specs.Places.{opened}
use Rattle.call.specs.Call.{World, Call, call_at, row_of, within_limits, call}
use Rattle.call.proofs.Frame.{WorldFits, world-fits, key-within, call-placed}
use Rattle.one_call.specs.Touch.{Placed, RefusesTo}

module _ (c : Config) (w : World) (q : Call) (g : Placed c w q) where
  abbrev found : List Entry
  found = row_of c w q

  abbrev here : ℕ
  here = place q.key found

  abbrev state : BlockState
  state = (opened q.key found).state

  abbrev piece : List ℕ
  piece = piece_of c.upload here w.upload

  abbrev page : List ℕ
  page = piece_of c.response here w.response

  fits : WorldFits c w
  fits = world-fits c w q g.limits g.sixteen

  pub made : call c w q ≡ call_at c w q.time found here (opened q.key found) q.what
  unfolding within_limits
  made = let h = g.limits in call-placed c w q fits (key-within c w q g.limits) g.clock g.place (search ands)

  pub refused-touches : (r : Request) → q.what ≡ request r → (n : Refusal)
      → step_request c (here * c.upload) (here * c.response) state piece r ≡ left state piece (Refused n) → RefusesTo n call c w q
  unfolding call_at piece_of put_piece
  refused-touches r e n step =
      let inside : here * c.upload + c.upload ≤ length w.upload = omega (arith, fits.upload, piece-order here 16 c.upload g.place) in
      rw (made, e, step, patch-self w.upload (here * c.upload) c.upload inside) (refl, refl)

  pub response-touches : (r : Response) → q.what ≡ response r → (n : Refusal) → step_response c state page r ≡ left state page (Refused n) → RefusesTo n call c w q
  unfolding call_at piece_of put_piece
  response-touches r e n step =
      let inside : here * c.response + c.response ≤ length w.response = omega (arith, fits.response, piece-order here 16 c.response g.place) in
      rw (made, e, step, patch-self w.response (here * c.response) c.response inside) (refl, refl)
