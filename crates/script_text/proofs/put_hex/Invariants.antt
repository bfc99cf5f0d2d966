use Rattle.script_text.proofs.Laws.{Hexed}
use Rattle.script_text.proofs.put_hex.Given as goal

abbrev pub invariant-loop-b : goal.invariant-loop-b
invariant-loop-b l = Hexed l.initial.out l.at l.bytes l.out l.b-index l.k
