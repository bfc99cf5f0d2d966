use lib.ListN.{length}
use Rattle.pieces.proofs.Loops.{Up}
use Rattle.pieces.proofs.copy_in.Given as goal

abbrev pub invariant-loop-i : goal.invariant-loop-i
invariant-loop-i l = Up l.initial.mem l.at l.src (length l.src) l.mem l.i
