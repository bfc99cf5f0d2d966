use Rattle.std.proofs.Common.{◌≡◌, ◌++◌, drop, length, map, take}
use Rattle.entries.specs.Entries.{swept}
use Rattle.block_table.proofs.sweep_row.Given as goal

abbrev pub invariant-loop-e : goal.invariant-loop-e
invariant-loop-e l = let freed = swept l.lifetime l.time in
    (length l.e-items ≡ 16) × (take l.e-index l.e-items ++ map freed (drop l.e-index l.e-items) ≡ map freed l.fn.entries)
