use Rattle.script_cut.proofs.Splitting.{Met}
use Rattle.script_cut.proofs.mark_from.Given as goal

abbrev pub invariant-loop-i : goal.invariant-loop-i
invariant-loop-i l = Met l.mark l.line l.from l.i
