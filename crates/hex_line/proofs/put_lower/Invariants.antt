use mathlib.Core.List.{map}
use lib.ListN.{length}
use Rattle.pieces.proofs.Loops.{Up}
use Rattle.hex_line.specs.Line.{lower}
use Rattle.hex_line.proofs.put_lower.Given as goal

abbrev pub invariant-loop-i : goal.invariant-loop-i
invariant-loop-i l = Up l.initial.out 0 (map lower l.text) (length l.text) l.out l.i
