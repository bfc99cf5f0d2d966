use Rattle.hex_line.specs.Line.{is_blank}
use Rattle.hex_line.proofs.Texts.{Passed}
use Rattle.hex_line.proofs.start_of.Given as goal

abbrev pub invariant-loop-i : goal.invariant-loop-i
invariant-loop-i l = Passed is_blank l.line l.i
