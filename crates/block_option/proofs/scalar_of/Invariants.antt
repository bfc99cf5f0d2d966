use Rattle.block_option.proofs.Laws.{Upto}
use Rattle.block_option.proofs.scalar_of.Given as goal

abbrev pub invariant-loop-byte : goal.invariant-loop-byte
invariant-loop-byte l = Upto l.option l.scalar l.byte-index
