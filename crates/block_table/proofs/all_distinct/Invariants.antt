use Rattle.std.proofs.Common.{◌≡◌, drop}
use Rattle.block_table.specs.Table.{distinct}
use Rattle.block_table.proofs.all_distinct.Given as goal

abbrev pub invariant-loop-i : goal.invariant-loop-i
invariant-loop-i l = distinct (drop l.i l.e-items) ≡ distinct l.fn.entries
