use Rattle.pieces.proofs.Puts.{put_then}
use Rattle.state_text.specs.State.{state_text}
use Rattle.std.proofs.Common.{rules}
use Rattle.state_text.proofs.put_state.Goals as goal

pub returns : goal.returns
unfolding state_text
returns c =
    let after-numbers = put_then c.put_entries-k.ensures.put (put_then c.put_byte-k.ensures c.put_memories.ensures.put) in
    record { put = put_then c.put_numbers-k.ensures.put after-numbers; upper_bound = search rules }
