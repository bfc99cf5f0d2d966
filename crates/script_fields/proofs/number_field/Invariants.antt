use Rattle.script_fields.proofs.Numbers.{Upto}
use Rattle.script_fields.proofs.number_field.Given as goal

abbrev pub invariant-loop-x : goal.invariant-loop-x
invariant-loop-x l = Upto l.text l.sum l.x-index
