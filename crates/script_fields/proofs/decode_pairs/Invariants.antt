use Rattle.script_fields.proofs.Pairs.{Paired}
use Rattle.script_fields.proofs.decode_pairs.Given as goal

abbrev pub invariant-loop-k : goal.invariant-loop-k
invariant-loop-k l = Paired l.text l.initial.out l.out l.k
