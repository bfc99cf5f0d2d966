use Rattle.entries.specs.Held.{held_by, held}
use Rattle.block_table.proofs.fresh.Goals as goal

pub returns : goal.returns
unfolding held held_by
returns c = rw c.free_entry.ensures
