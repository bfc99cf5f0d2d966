use lib.ListN.{length}
use Rattle.hex_line.proofs.Texts.{Bare}
use Rattle.hex_line.proofs.end_of.Given as goal

abbrev pub invariant-loop-rest : goal.invariant-loop-rest
invariant-loop-rest l = Bare l.line l.rest

abbrev pub decreases-loop-rest : goal.decreases-loop-rest
decreases-loop-rest l = length l.rest
