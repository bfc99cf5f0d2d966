use lib.ListN.{drop}
use Rattle.pieces.proofs.Puts.{Putting}
use Rattle.gathering.specs.Gather.{gathered}
use Rattle.gathering.proofs.gather.Given as goal

abbrev pub invariant-loop-i : goal.invariant-loop-i
invariant-loop-i l = Putting l.initial.out l.start (gathered l.size l.memory 0 l.fn.lengths) l.out l.to (gathered l.size l.memory l.i (drop l.i l.fn.lengths))
