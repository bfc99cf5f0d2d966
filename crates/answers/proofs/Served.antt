-- A Served answer shows the chunk that was asked for: its bounds come from num, size and length. Assumes nothing.
use Rattle.std.specs.Prelude.{Ok}
use Prim.Native.Nat.{ℕ, ◌+◌, ◌-◌, ◌≤◌, ◌<◌, min}
use mathlib.Core.Path.{◌≡◌, refl, sym, ap, ◌∙◌}
use mathlib.Core.List.{List}
use native.Mathlib.Omega.{arith}
use lib.ListN.{length, take, drop}
use lib.Seq.{take-take, drop-drop}
use Rattle.pieces.specs.Memory.{part}
use Rattle.pieces.proofs.Memory.{drop-part, take_part, within-there}
use Rattle.block_value.specs.Value.{block_size, block_start}
use Rattle.block_value.specs.declared.BlockValue.{BlockValue}
use Rattle.chunks.specs.Chunk.{chunk_of, bytes_under}
use Rattle.chunks.proofs.Laws.{chunk-bounds}
use Rattle.answer_sources.specs.Parts.{part_of}

-- Where n bytes of payload are cached from index `at` of the response memory on, and the chunk for b is taken, the part that the answer names
-- is bytes ks up to min(ks + s, n) of that payload.
pub served-shows : (m : List ℕ) (at n : ℕ) (b x : BlockValue) (from to : ℕ) → chunk_of b n ≡ Ok (bytes_under x from to) → at + n ≤ length m
    → part_of m (record { from = at + from; to = at + to }) ≡ part (part m at n) (block_start b) (min (block_start b + block_size b) n - block_start b)
unfolding part
served-shows m at n b x from to e fits =
    let k = chunk-bounds b n x from to e in
    let q : (at + to) - (at + from) ≡ to - from = omega arith in
    sym (within-there m (at + from) (at + to) (omega arith) (omega arith))
    ∙ rw q (sym (ap (take (to - from)) (drop-part m at n from (omega arith) fits) ∙ take_part m (at + from) (n - from) (to - from) (omega arith)))
    ∙ (λ i. part (part m at n) (k.starts i) (k.ends i - k.starts i))
