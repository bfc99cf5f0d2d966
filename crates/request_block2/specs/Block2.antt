-- A request's Block2 value (document 01, "A request call", steps 4 and 5). The key's response piece begins at `away` of the response memory.
use Rattle.std.specs.Prelude.{ℕ, ◌+◌, cond, List, Option, Some, None, Result, Err, Ok}
use Rattle.refusal.specs.declared.Refusal.{Refusal}
use Rattle.block_value.specs.declared.BlockValue.{BlockValue}
use Rattle.chunks.specs.Chunk.{chunk_of}
use Rattle.chunks.specs.declared.Chunk.{Chunk}
use Rattle.block_state.specs.declared.BlockState.{BlockState}
use Rattle.block_state.specs.declared.Answer.{Answer}
use Rattle.block_state.specs.declared.Answer.TheVariants.{Served, Refused}
use Rattle.block_state.specs.declared.Part.{Part}
use Rattle.block_state.specs.State.{kept_while, with_cached, with_recorded}
use Rattle.block_state.specs.Step.{Left, left, bytes_from}

-- Step 4, with a response cached: "serve the chunk from the cache: Served (head, chunk, Block2 value, Block1 value if step 2 made one),
-- and drop the cache if no more follows". Refusal 8 keeps the cache.
unfoldable pub served : ℕ → BlockState → List ℕ → Option BlockValue → Result Chunk Refusal → Left
served away s u block1 (Err n) = left s u (Refused n)
served away s u block1 (Ok c) =
    let head = bytes_from away s.cached.head in
    let part : Part = record { from = head.to + c.from; to = head.to + c.to } in
    left (with_cached s (kept_while c.block.more s.cached)) u (Served (record { block1 = block1; block2 = c.block; head = head; chunk = part }))

-- Step 4: "Record the Block2 value, or none. If it is given and a response is cached, serve ..". Step 5: "Otherwise Handed after step 2, or Pass."
unfoldable pub onward : ℕ → BlockState → List ℕ → Option BlockValue → Option BlockValue → Answer → Left
onward away s u None block1 otherwise = left (with_recorded s None) u otherwise
onward away s u (Some b) block1 otherwise =
    let recorded = with_recorded s (Some b) in
    cond s.cached.held (served away recorded u block1 (chunk_of b s.cached.payload)) (left recorded u otherwise)
