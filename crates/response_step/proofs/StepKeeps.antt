-- Whatever a response says, its step keeps its state within the limits and its piece as long as it was. Assumes nothing.
use Rattle.std.specs.Prelude.{Option, Some, None, Result, Ok, Err}
use Prim.Native.Nat.{ℕ, ◌+◌, ◌≤◌}
use mathlib.Core.Path.{◌≡◌, ◌∙◌}
use mathlib.Core.List.{List, ◌++◌}
use native.Mathlib.Omega.{arith}
use lib.ListN.{length, length-append}
use lib.Dec.{ltb}
use borrow.Author.Tests.{ltb-false}
use Rattle.refusal.specs.declared.Refusal.{Refusal}
use Rattle.refusal.specs.declared.Refusal.TheVariants.{NoRoom}
use Rattle.block_value.specs.declared.BlockValue.{BlockValue}
use Rattle.pieces.proofs.Memory.{length-patch}
use Rattle.negotiation.specs.Negotiation.{negotiated}
use Rattle.chunks.specs.Chunk.{chunk_of}
use Rattle.chunks.specs.declared.Chunk.{Chunk}
use Rattle.config.specs.declared.Config.{Config}
use Rattle.block_state.specs.declared.BlockState.{BlockState}
use Rattle.block_state.specs.declared.Answer.TheVariants.{Plain, Whole, Refused}
use Rattle.block_state.specs.Message.{Response}
use Rattle.block_state.specs.State.{recorded_block}
use Rattle.response_step.specs.Step.{chunked, on_reply, step_response}
use Rattle.pieces.proofs.Tests.{on_test}
use Rattle.block_state.proofs.Fits.{StateFits, caching-ok}
use Rattle.block_state.proofs.StepKeeps.{Keeps, as_it_was}

module _ (c : Config) where
  chunked-keeps : (s : BlockState) (d head payload : List ℕ) (g : Result Chunk Refusal) → length head ≤ 128 → StateFits c s → length d ≡ c.response
      → Keeps c c.response (chunked c s d head payload g)
  unfolding chunked
  chunked-keeps s d head payload (Err n) k f h = as_it_was c c.response s d (Refused n) f h
  chunked-keeps s d head payload (Ok part) k f h =
      on_test (Keeps c c.response) part.block.more
      (λ _. on_test (Keeps c c.response) (ltb c.response (length head + length payload)) (λ _. as_it_was c c.response s d (Refused NoRoom) f h)
      (λ e.
      let fits : length head + length payload ≤ c.response = ltb-false c.response (length head + length payload) e in
      record {
        state = record { assembled = f.assembled; cached = caching-ok c (length head) (length payload) k fits; recorded = f.recorded };
        piece = length-patch d 0 (head ++ payload) (omega (arith, length-append head payload)) ∙ h;
      }))
      (λ _. as_it_was c c.response s d (Whole part.block (record { from = part.from; to = part.to })) f h)

  pub response-keeps : (s : BlockState) (d : List ℕ) (r : Response) → length r.head ≤ 128 → StateFits c s → length d ≡ c.response
      → Keeps c c.response (step_response c s d r)
  unfolding step_response on_reply
  response-keeps s d r k f h =
      on_test (Keeps c c.response) r.own (λ _. as_it_was c c.response s d Plain f h)
      (λ _. reply-keeps (negotiated c (recorded_block s.recorded) r.bare (length r.payload)))
    where
      reply-keeps : (g : Result (Option BlockValue) Refusal) → Keeps c c.response (on_reply c s d r.head r.payload g)
      reply-keeps (Err n) = as_it_was c c.response s d (Refused n) f h
      reply-keeps (Ok None) = as_it_was c c.response s d Plain f h
      reply-keeps (Ok (Some b)) = chunked-keeps s d r.head r.payload (chunk_of b (length r.payload)) k f h
