-- The laws of a response's step, a law for each branch: what the code's answers come to. Assumes nothing.
use Rattle.std.specs.Prelude.{Option, Some, None, Result, Ok, Err}
use Prim.Native.Nat.{ℕ, ◌+◌, ◌≤◌, ◌<◌}
use mathlib.Core.Path.{◌≡◌, ◌∙◌}
use mathlib.Core.Bool.{true, false}
use mathlib.Core.List.{List, ◌++◌}
use lib.ListN.{length}
use borrow.Author.Tests.{lt-ltb, le-ltb}
use Rattle.refusal.specs.declared.Refusal.{Refusal}
use Rattle.refusal.specs.declared.Refusal.TheVariants.{NoRoom}
use Rattle.pieces.specs.Memory.{patch}
use Rattle.block_value.specs.declared.BlockValue.{BlockValue}
use Rattle.negotiation.specs.Negotiation.{negotiated}
use Rattle.chunks.specs.Chunk.{chunk_of}
use Rattle.chunks.specs.declared.Chunk.{Chunk}
use Rattle.config.specs.declared.Config.{Config}
use Rattle.block_state.specs.declared.BlockState.{BlockState}
use Rattle.block_state.specs.declared.Answer.TheVariants.{Plain, Whole, First, Refused}
use Rattle.block_state.specs.Message.{Response}
use Rattle.block_state.specs.State.{caching, recorded_block, with_cached}
use Rattle.block_state.specs.Step.{left}
use Rattle.response_step.specs.Step.{chunked, on_reply, step_response}

module _ (c : Config) (s : BlockState) (d head payload : List ℕ) (ch : Result Chunk Refusal) where
  pub chunked-refused : (n : Refusal) → ch ≡ Err n → chunked c s d head payload ch ≡ left s d (Refused n)
  unfolding chunked
  chunked-refused n e = rw e

  module _ (k : Chunk) (e : ch ≡ Ok k) where
    pub chunked-whole : k.block.more ≡ false → chunked c s d head payload ch ≡ left s d (Whole k.block (record { from = k.from; to = k.to }))
    unfolding chunked
    chunked-whole h = rw (e, h)

    pub chunked-small : k.block.more ≡ true → c.response < length head + length payload → chunked c s d head payload ch ≡ left s d (Refused NoRoom)
    unfolding chunked
    chunked-small h room = rw (e, h, lt-ltb c.response (length head + length payload) room)

    pub chunked-first : k.block.more ≡ true → length head + length payload ≤ c.response
        → chunked c s d head payload ch ≡ left (with_cached s (caching (length head) (length payload))) (patch d 0 (head ++ payload)) (First k.block (record { from = k.from; to = k.to }))
    unfolding chunked
    chunked-first h room = rw (e, h, le-ltb c.response (length head + length payload) room)

module _ (c : Config) (s : BlockState) (d : List ℕ) (r : Response) where
  pub response-own : r.own ≡ true → step_response c s d r ≡ left s d Plain
  unfolding step_response
  response-own h = rw h

  module _ (not_own : r.own ≡ false) (reply : Result (Option BlockValue) Refusal) (en : reply ≡ negotiated c (recorded_block s.recorded) r.bare (length r.payload)) where
    replies : step_response c s d r ≡ on_reply c s d r.head r.payload reply
    unfolding step_response
    replies = rw (not_own, ← en)

    pub response-refused : (n : Refusal) → reply ≡ Err n → step_response c s d r ≡ left s d (Refused n)
    unfolding on_reply
    response-refused n h = replies ∙ rw h

    pub response-plain : reply ≡ Ok None → step_response c s d r ≡ left s d Plain
    unfolding on_reply
    response-plain h = replies ∙ rw h

    pub response-chunk : (b : BlockValue) → reply ≡ Ok (Some b) → step_response c s d r ≡ chunked c s d r.head r.payload (chunk_of b (length r.payload))
    unfolding on_reply
    response-chunk b h = replies ∙ rw h
