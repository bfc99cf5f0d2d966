use Rattle.std.proofs.Common.{◌-◌, length}
use Rattle.parts_text.proofs.Laws.{Walking}
use Rattle.parts_text.proofs.options.put_more.Given as goal

abbrev pub invariant-loop-option : goal.invariant-loop-option
invariant-loop-option l = Walking l.fn.out l.start l.message l.first l.before l.out l.k l.at l.last

abbrev pub decreases-loop-option : goal.decreases-loop-option
decreases-loop-option l = length l.message - l.at
