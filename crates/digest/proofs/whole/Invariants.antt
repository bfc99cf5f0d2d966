use Rattle.std.proofs.Common.{◌≡◌}
use Rattle.digest.specs.Digest.{stirs}
use Rattle.digest.proofs.whole.Given as goal

abbrev pub invariant-loop-j : goal.invariant-loop-j
invariant-loop-j l = l.d ≡ stirs l.key l.j
