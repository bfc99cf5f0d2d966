use mathlib.Core.Path.{◌≡◌}
use Prim.Native.Nat.{◌-◌}
use lib.ListN.{length}
use Rattle.option_reader.specs.Reader.{found_from}
use Rattle.option_reader.proofs.nth_option.Given as goal

abbrev pub invariant-loop-option : goal.invariant-loop-option
invariant-loop-option l = found_from l.message l.at l.last l.wanted l.left ≡ found_from l.message l.fn.options l.initial.last l.wanted l.fn.n

abbrev pub decreases-loop-option : goal.decreases-loop-option
decreases-loop-option l = length l.message - l.at
