use Rattle.std.proofs.Common.{◌≡◌, ◌+◌, ◌≤◌, drop}
use Rattle.tags.specs.Tags.{times}
use Rattle.tags.proofs.count.Given as goal

abbrev pub invariant-loop-x : goal.invariant-loop-x
invariant-loop-x l = (l.n ≤ l.x-index) × (l.n + times l.d (drop l.x-index l.x-items) ≡ times l.d l.fn.row)
