-- A response call on the state of its key and on its piece of the response memory (document 01, "A response call"). The upload memory
-- stays as it is.
use Rattle.std.specs.Prelude.{ℕ, ◌+◌, cond, List, ◌++◌, length, ltb, Option, Some, None, Result, Ok, Err}
use Rattle.refusal.specs.declared.Refusal.{Refusal}
use Rattle.refusal.specs.declared.Refusal.TheVariants.{NoRoom}
use Rattle.block_value.specs.declared.BlockValue.{BlockValue}
use Rattle.pieces.specs.Memory.{patch}
use Rattle.negotiation.specs.Negotiation.{negotiated}
use Rattle.chunks.specs.Chunk.{chunk_of}
use Rattle.chunks.specs.declared.Chunk.{Chunk}
use Rattle.config.specs.declared.Config.{Config}
use Rattle.block_state.specs.declared.BlockState.{BlockState}
use Rattle.block_state.specs.declared.Part.{Part}
use Rattle.block_state.specs.declared.Answer.TheVariants.{Plain, Whole, First, Refused}
use Rattle.block_state.specs.Message.{Response}
use Rattle.block_state.specs.State.{caching, recorded_block, with_cached}
use Rattle.block_state.specs.Step.{Left, left}

-- "If no more follows: Whole, nothing cached. .. Else head then payload are copied to the start of the piece, its other bytes staying
-- (refusal 7 if their sum exceeds V): First, with the chunk." The chunk is a part of the response's own payload.
unfoldable pub chunked : Config → BlockState → List ℕ → List ℕ → List ℕ → Result Chunk Refusal → Left
chunked c s d head payload (Err n) = left s d (Refused n)
chunked c s d head payload (Ok k) =
    let part : Part = record { from = k.from; to = k.to } in
    cond k.block.more
    (cond (ltb c.response (length head + length payload)) (left s d (Refused NoRoom))
    (left (with_cached s (caching (length head) (length payload))) (patch d 0 (head ++ payload)) (First k.block part)))
    (left s d (Whole k.block part))

-- "Negotiate with the recorded Block2 value; no block: Plain. Else take that chunk of the payload (refusal 8 possible)."
unfoldable pub on_reply : Config → BlockState → List ℕ → List ℕ → List ℕ → Result (Option BlockValue) Refusal → Left
on_reply c s d head payload (Err n) = left s d (Refused n)
on_reply c s d head payload (Ok None) = left s d Plain
on_reply c s d head payload (Ok (Some b)) = chunked c s d head payload (chunk_of b (length payload))

-- "If the response has its own Block2 option: Plain."
unfoldable pub step_response : Config → BlockState → List ℕ → Response → Left
step_response c s d r =
    cond r.own (left s d Plain)
    (on_reply c s d r.head r.payload (negotiated c (recorded_block s.recorded) r.bare (length r.payload)))
