use Rattle.std.proofs.Common.{◌≡◌, drop}
use Rattle.block_table.specs.Quick.{alone}
use Rattle.block_table.proofs.alone_from.Given as goal

abbrev pub invariant-loop-i : goal.invariant-loop-i
invariant-loop-i l = alone l.e (drop l.i l.entries) ≡ alone l.e (drop l.from l.entries)
