use mathlib.Core.Path.{◌≡◌}
use Prim.Native.Nat.{◌+◌, ◌*◌, ◌^◌, ◌≤◌}
use lib.ListN.{drop}
use Rattle.entries.specs.Held.{held}
use Rattle.table_limits.proofs.held_in.Given as goal

abbrev pub invariant-loop-e : goal.invariant-loop-e
invariant-loop-e l = record { small : l.bytes ≤ l.e-index * 2 ^ 34; left : l.bytes + held (drop l.e-index l.fn.entries) ≡ held l.fn.entries }
