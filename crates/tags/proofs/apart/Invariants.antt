use Rattle.std.proofs.Common.{◌≡◌, ◌+◌, ◌*◌, ◌≤◌, drop}
use Rattle.tags.specs.Tags.{pairs}
use Rattle.tags.proofs.apart.Given as goal

abbrev pub invariant-loop-d : goal.invariant-loop-d
invariant-loop-d l = (l.n ≤ 16 * l.d-index) × (l.n + pairs (drop l.d-index l.d-items) l.fn.row ≡ pairs l.fn.row l.fn.row)
