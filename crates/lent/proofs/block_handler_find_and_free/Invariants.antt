use Rattle.entries.specs.Entries.{swept}
use Rattle.lent.proofs.Sweeps.{Walked}
use Rattle.lent.proofs.block_handler_find_and_free.Given as goal

-- The first i entries are swept, and what is seen is what they show.
abbrev pub invariant-loop-i : goal.invariant-loop-i
invariant-loop-i l = Walked (swept l.lifetime l.time) l.key l.i l.fn.entries l.entries l.seen
