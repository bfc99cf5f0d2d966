-- Document 01, "Chunk".
use Rattle.std.specs.Prelude.{ℕ, ◌+◌, ◌*◌, min, cond, leb, ltb, Ok, Result, Err}
use Rattle.refusal.specs.declared.Refusal.{Refusal}
use Rattle.refusal.specs.declared.Refusal.TheVariants.{PastTheEnd}
use Rattle.block_value.specs.Value.{block_size, block_start}
use Rattle.block_value.specs.declared.BlockValue.{BlockValue}
use Rattle.chunks.specs.declared.Chunk.{Chunk}

-- "More exactly if (k+1)s < n; num and exponent are those asked."
abbrev pub chunk_block : BlockValue → ℕ → BlockValue
chunk_block b n =
    record { num = b.num; more = ltb ((b.num + 1) * block_size b) n; size_exponent = b.size_exponent }

-- The bytes from..to of a payload, under this block value.
abbrev pub bytes_under : BlockValue → ℕ → ℕ → Chunk
bytes_under b from to = record { block = b; from = from; to = to }

-- "ks >= n is refusal 8. The chunk is bytes ks up to min(ks + s, n)."
unfoldable pub chunk_of : BlockValue → ℕ → Result Chunk Refusal
chunk_of b n =
    cond (leb n (block_start b)) (Err PastTheEnd) (Ok (bytes_under (chunk_block b n) (block_start b) (min (block_start b + block_size b) n)))
