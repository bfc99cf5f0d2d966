-- The laws of the chunk, by its cases. Assumes nothing.
use Rattle.std.specs.Prelude.{Result, Ok, Err}
use mathlib.Core.Path.{◌≡◌, refl, sym, ap, ◌∙◌}
use mathlib.Core.Bool.{Bool, true, false}
use Prim.Native.Nat.{ℕ, ◌+◌, ◌*◌, min, ◌≤◌, ◌<◌}
use native.Mathlib.Omega.{arith}
use lib.Dec.{ltb, leb}
use borrow.Author.Tests.{le-leb, lt-leb, leb-true, leb-false}
use Rattle.refusal.specs.declared.Refusal.{Refusal}
use Rattle.refusal.specs.declared.Refusal.TheVariants.{PastTheEnd}
use Rattle.block_value.specs.Value.{block_size, block_start}
use Rattle.block_value.specs.declared.BlockValue.{BlockValue}
use Rattle.chunks.specs.declared.Chunk.{Chunk}
use Rattle.chunks.specs.Chunk.{chunk_of, bytes_under}

-- ---- the chunk, which starts at `from` in blocks of `size` bytes

module _ (b : BlockValue) (n size from : ℕ) (is : size ≡ block_size b) (start : from ≡ block_start b) where
  pub chunk-past : n ≤ from → chunk_of b n ≡ Err PastTheEnd
  unfolding chunk_of
  chunk-past h = rw (← start, le-leb n from h)

  pub chunk_bytes : (to : ℕ) → from < n → to ≡ min (from + size) n
      → chunk_of b n ≡ Ok (bytes_under (record { num = b.num; more = ltb (from + size) n; size_exponent = b.size_exponent }) from to)
  unfolding chunk_of
  chunk_bytes to h e =
      let next : (b.num + 1) * block_size b ≡ from + size = omega arith in
      rw (next, ← start, lt-leb n from h, e, is)

pub same-chunk : (k l : Chunk) → ◌≡◌ {A = Result Chunk Refusal} (Ok k) (Ok l) → k ≡ l
same-chunk k l e = cc

-- a chunk lies within its payload, from ks on
pub record ChunkBounds (b : BlockValue) (n from to : ℕ) : Type 0 where
  pub starts : from ≡ block_start b
  pub ends : to ≡ min (block_start b + block_size b) n
  pub below : from < n

pub chunk-bounds : (b : BlockValue) (n : ℕ) (x : BlockValue) (from to : ℕ) → chunk_of b n ≡ Ok (bytes_under x from to) → ChunkBounds b n from to
chunk-bounds b n x from to e = go (leb n (block_start b)) refl
  where
    go : (t : Bool) → leb n (block_start b) ≡ t → ChunkBounds b n from to
    go true h = let no : ◌≡◌ {A = ℕ} 0 1 = cc (chunk-past b n (block_size b) (block_start b) refl refl (leb-true n (block_start b) h)) in absurd (omega arith)
    go false h =
        let below = leb-false n (block_start b) h in
        let same = chunk_bytes b n (block_size b) (block_start b) refl refl _ below refl in
        let is = same-chunk _ _ (sym e ∙ same) in
        let starts : from ≡ block_start b = ap (λ (k : Chunk). k.from) is in
        record { starts = starts; ends = ap (λ (k : Chunk). k.to) is; below = omega arith }

pub chunk-within : (b : BlockValue) (n : ℕ) (x : BlockValue) (from to : ℕ) → chunk_of b n ≡ Ok (bytes_under x from to) → (from ≤ n) × (to ≤ n)
chunk-within b n x from to e = let k = chunk-bounds b n x from to e in (omega arith, omega arith)
