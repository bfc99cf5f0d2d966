-- A request call on the state of its key and on its piece of the upload memory (document 01, "A request call"), which begins at `home` of the
-- upload memory; its response piece begins at `away` of the other. The response memory stays as it is.
use Rattle.std.specs.Prelude.{ℕ, List, length, Option, Some, None, Result, Ok, Err}
use Rattle.refusal.specs.declared.Refusal.{Refusal}
use Rattle.config.specs.declared.Config.{Config}
use Rattle.block_value.specs.declared.BlockValue.{BlockValue}
use Rattle.negotiation.specs.Negotiation.{option_of, request_block, negotiated}
use Rattle.block_state.specs.declared.BlockState.{BlockState}
use Rattle.block_state.specs.declared.RequestNumbers.{RequestNumbers}
use Rattle.block_state.specs.declared.Answer.TheVariants.{Continue, TooLarge, Handed, Pass, Refused}
use Rattle.block_state.specs.Message.{Request}
use Rattle.block_state.specs.State.{assembly, with_assembled}
use Rattle.block_state.specs.Step.{Left, left, bytes_from}
use Rattle.request_step.specs.declared.Asked.{Asked}
use Rattle.request_block1.specs.declared.Taken.{Taken}
use Rattle.request_block1.specs.declared.Taken.TheVariants as block
use Rattle.request_block1.specs.Block1.{taken, piece_taken}
use Rattle.request_block2.specs.Block2.{onward}

-- Step 2, by what taking the block of this exponent came to: "If more: Continue (2.31, the Block1 value), done. Otherwise the body is complete, assembled length
-- becomes 0, go on."
abbrev pub on_taken : ℕ → ℕ → BlockState → List ℕ → Option BlockValue → ℕ → BlockValue → Result Taken Refusal → Left
on_taken home away s u block2 exponent reply (Err n) = left s u (Refused n)
on_taken home away s u block2 exponent reply (Ok (block.More n)) = left (with_assembled s (assembly n exponent)) u (Continue reply)
on_taken home away s u block2 exponent reply (Ok (block.Body n)) =
    onward away (with_assembled s (assembly 0 0)) u block2 (Some reply) (Handed reply (bytes_from home n))

-- Strict mode's two checks, step 2 ("Block1 given: splice"), and what follows, agreed on with this reply.
unfoldable pub block1_given : Config → ℕ → ℕ → BlockState → List ℕ → Option BlockValue → List ℕ → BlockValue → BlockValue → Left
block1_given c home away s u block2 payload b reply =
    let t = taken c s.assembled b (length payload) in
    on_taken home away s (piece_taken c s.assembled u b payload t) block2 b.size_exponent reply t

-- Step 1 has negotiated. Step 3: "Block1 absent and a block came out: TooLarge (4.13, that value), done." (With Block1 given, a block or a
-- refusal comes out.)
unfoldable pub on_negotiated : Config → ℕ → ℕ → BlockState → List ℕ → Option BlockValue → List ℕ → Option BlockValue → Result (Option BlockValue) Refusal → Left
on_negotiated c home away s u block2 payload block1 (Err n) = left s u (Refused n)
on_negotiated c home away s u block2 payload block1 (Ok None) = onward away s u block2 None Pass
on_negotiated c home away s u block2 payload None (Ok (Some reply)) = left s u (TooLarge reply)
on_negotiated c home away s u block2 payload (Some b) (Ok (Some reply)) = block1_given c home away s u block2 payload b reply

-- Step 1: "Negotiate with Block1, always", with the two block values read.
abbrev pub step_with : Config → ℕ → ℕ → BlockState → List ℕ → ℕ → Option BlockValue → Option BlockValue → List ℕ → Left
step_with c home away s u bare block1 block2 payload =
    on_negotiated c home away s u block2 payload block1 (negotiated c block1 bare (length payload))

unfoldable pub step_request : Config → ℕ → ℕ → BlockState → List ℕ → Request → Left
step_request c home away s u r =
    step_with c home away s u r.bare (request_block c r.block1) (request_block c r.block2) r.payload

-- A request's numbers once its options are read.
abbrev pub asked_by : Config → RequestNumbers → List ℕ → List ℕ → Asked
asked_by c q option1 option2 =
    record {
      time = q.time;
      bare = q.bare;
      block1 = request_block c (option_of q.given1 option1);
      block2 = request_block c (option_of q.given2 option2);
    }
