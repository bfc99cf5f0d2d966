use Rattle.message_writer.proofs.Ahead.{Ahead}
use lib.ListN.{length}
use Rattle.message_writer.proofs.put.options.Given as goal

abbrev pub invariant-loop-number : goal.invariant-loop-number
invariant-loop-number l = Ahead l.initial.out l.start l.numbers l.lengths l.values l.out l.to l.before l.at (length l.yielded)
