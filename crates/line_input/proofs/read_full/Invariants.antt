use Prim.Native.Nat.{◌-◌, ◌≤◌}
use mathlib.Core.Path.{◌≡◌}
use lib.ListN.{length}
use Rattle.line_input.proofs.read_full.Given as goal

abbrev pub invariant-loop-held : goal.invariant-loop-held
invariant-loop-held g l = (length l.text ≡ length l.initial.text) × (l.last.end ≤ length l.text)

abbrev pub decreases-loop-held : goal.decreases-loop-held
decreases-loop-held g l = length l.text - l.held
