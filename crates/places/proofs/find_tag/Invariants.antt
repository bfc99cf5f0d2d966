use Rattle.std.proofs.Common.{◌≡◌, ◌+◌, drop, eqb}
use Rattle.keys.specs.Lists.{find}
use Rattle.places.proofs.find_tag.Given as goal

abbrev pub invariant-loop-i : goal.invariant-loop-i
invariant-loop-i l = l.i + find (λ x. eqb x l.own) (drop l.i l.x-items) ≡ find (λ x. eqb x l.own) l.fn.row
