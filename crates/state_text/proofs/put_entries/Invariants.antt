use Rattle.state_text.proofs.Entries.{Shown}
use Rattle.state_text.proofs.put_entries.Given as goal

abbrev pub invariant-loop-i : goal.invariant-loop-i
invariant-loop-i l = Shown l.initial.out l.at l.fn.entries l.out l.k l.i
