use mathlib.Core.Path.{◌≡◌}
use Prim.Native.Nat.{◌+◌}
use lib.ListN.{drop}
use Rattle.gathering.specs.Gather.{sum, scattered}
use Rattle.gathering.proofs.scatter.Given as goal

abbrev pub invariant-loop-i : goal.invariant-loop-i
invariant-loop-i l =
    record {
      ends : l.at + sum (drop l.i l.fn.lengths) ≡ l.start + sum l.fn.lengths;
      left : scattered l.size l.memory l.i (drop l.i l.fn.lengths) (drop l.at l.bytes) ≡ scattered l.size l.initial.memory 0 l.fn.lengths (drop l.start l.bytes);
    }
