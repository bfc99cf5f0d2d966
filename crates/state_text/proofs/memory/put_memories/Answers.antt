use Rattle.pieces.proofs.Puts.{put_then, put_as}
use Rattle.state_text.specs.Memory.{memories_text}
use Rattle.std.proofs.Common.{rules}
use Rattle.state_text.proofs.memory.put_memories.Goals as goal

pub returns : goal.returns
unfolding memories_text
returns c =
    let rest = put_then c.put_byte-k.ensures (put_then c.put_word-k-2.ensures.put c.put_byte.ensures) in
    record { put = put_as (put_then c.put_word-k.ensures.put rest) (rw (c.fnv.ensures, c.fnv-2.ensures)); upper_bound = search rules }
