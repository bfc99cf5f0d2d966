use mathlib.Core.Path.{sym}
use native.Mathlib.Omega.{arith}
use Rattle.chunks.proofs.Laws.{chunk-past, chunk_bytes}
use Rattle.chunks.proofs.chunk_of.Goals as goal

pub returns-then-len-from : goal.returns-then-len-from
returns-then-len-from c = sym (chunk-past _ _ _ _ c.size-size.ensures c.start-from.ensures.0 c.if-len-from.true)

pub returns : goal.returns
returns c = sym (chunk_bytes _ _ _ _ c.size-size.ensures c.start-from.ensures.0 _ c.if-len-from.false (omega arith))
