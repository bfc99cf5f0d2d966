use mathlib.Core.Path.{◌≡◌}
use Rattle.pieces.specs.Memory.{patch}
use Rattle.big_endian.specs.Numbers.{in_bytes}
use Rattle.big_endian.proofs.put_number.Given as goal

abbrev pub invariant-loop-i : goal.invariant-loop-i
invariant-loop-i l = patch l.out l.at (in_bytes l.i l.left) ≡ patch l.initial.out l.at (in_bytes l.k l.n)
