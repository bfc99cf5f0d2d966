use Rattle.std.proofs.Common.{◌≡◌, ◌+◌, ◌≤◌, length}
use Rattle.line_input.specs.Sizes.{longest}
use Rattle.coapdump.proofs.run.Given as goal

abbrev pub invariant-loop-turns : goal.invariant-loop-turns
invariant-loop-turns g l =
    ((length l.text ≡ length l.initial.text) × (length l.digits ≡ length l.initial.digits) × (length l.bytes ≡ length l.initial.bytes) × (length l.out ≡ length l.initial.out))
    × ((l.held ≤ longest + 1) × (l.took.end ≤ length l.text))

abbrev pub decreases-loop-turns : goal.decreases-loop-turns
decreases-loop-turns g l = l.turns
