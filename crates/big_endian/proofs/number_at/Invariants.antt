use Rattle.pieces.specs.Memory.{part}
use Rattle.block_option.proofs.Laws.{Upto}
use Rattle.big_endian.proofs.number_at.Given as goal

abbrev pub invariant-loop-byte : goal.invariant-loop-byte
invariant-loop-byte l = Upto (part l.fn.bytes l.at l.k) l.n l.byte-index
