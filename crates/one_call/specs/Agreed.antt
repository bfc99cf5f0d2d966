-- EVERY PAIRING, IN THE CALLS. crates/pairing says what a negotiation gives, for all sizes. Here: a refusal that a call's negotiation gives is what the call answers; and a block
-- value, if a request is answered Block1 or a response Block2, is the one negotiated (in a response with the chunk's own "more").
use Rattle.std.specs.Prelude.{ℕ, false, ◌≡◌, length, Option, Some, Result, Ok, Err}
use Rattle.refusal.specs.declared.Refusal.{Refusal}
use Rattle.block_value.specs.declared.BlockValue.{BlockValue}
use Rattle.negotiation.specs.Negotiation.{request_block, negotiated}
use Rattle.chunks.specs.Chunk.{chunk_block}
use Rattle.config.specs.declared.Config.{Config}
use Rattle.block_state.specs.Message.{Request, Response, request, response}
use Rattle.apart.specs.Answers.{said}
use Rattle.block_state.specs.State.{recorded_block}
use Rattle.places.specs.Places.{opened}
use Rattle.call.specs.Call.{World, Call, row_of}
use Rattle.one_call.specs.Handler.{Handler}
use Rattle.one_call.specs.Touch.{Placed, RefusesTo}

-- A request negotiates with its Block1 value, always.
abbrev pub request_agrees : Config → Request → Result (Option BlockValue) Refusal
request_agrees c r = negotiated c (request_block c r.block1) r.bare (length r.payload)

-- The Block2 value that is recorded for the call's key, or none.
abbrev pub recorded_for : Config → World → Call → Option BlockValue
recorded_for c w q = recorded_block (opened q.key (row_of c w q)).state.recorded

-- A response without a Block2 option of its own negotiates with the Block2 value that is recorded for its key.
abbrev pub response_agrees : Config → World → Call → Response → Result (Option BlockValue) Refusal
response_agrees c w q r = negotiated c (recorded_for c w q) r.bare (length r.payload)

pub record Agrees (h : Handler) : Type 0 where
  -- A call that has its place, and whose negotiation gives a refusal (4 or 5), gets that refusal and changes nothing but the touch.
  pub request_refused : (c : Config) (w : World) (q : Call) (r : Request) (n : Refusal) → Placed c w q → q.what ≡ request r → request_agrees c r ≡ Err n
      → RefusesTo n h c w q
  pub response_refused : (c : Config) (w : World) (q : Call) (r : Response) (n : Refusal) → Placed c w q → q.what ≡ response r → r.own ≡ false
      → response_agrees c w q r ≡ Err n → RefusesTo n h c w q
  -- Any Block1 value that a request is answered is the block that was negotiated.
  pub block1 : (c : Config) (w : World) (q : Call) (r : Request) (reply : BlockValue) → q.what ≡ request r → (said (h c w q).answer).block1 ≡ Some reply
      → request_agrees c r ≡ Ok (Some reply)
  -- Any Block2 value that a response is answered is that of the negotiated block's chunk: its num and size, and "more" exactly if more follows.
  pub block2 : (c : Config) (w : World) (q : Call) (r : Response) (reply : BlockValue) → q.what ≡ response r → (said (h c w q).answer).block2 ≡ Some reply
      → (b : BlockValue) × (response_agrees c w q r ≡ Ok (Some b)) × (reply ≡ chunk_block b (length r.payload))
