use Rattle.std.proofs.Common.{◌≡◌, ◌+◌, ◌≤◌, length}
use Rattle.script_state.specs.Start.{much}
use Rattle.line_input.specs.Sizes.{longest}
use Rattle.replay.proofs.run.Given as goal

abbrev pub invariant-loop-turns : goal.invariant-loop-turns
invariant-loop-turns g l =
    ((length l.text ≡ length l.initial.text)
    × (length l.upload ≡ length l.initial.upload)
    × (length l.response ≡ length l.initial.response)
    × (length l.scratch ≡ length l.initial.scratch)
    × (length l.out ≡ length l.initial.out))
    × ((l.held ≤ longest + 1) × (l.took.end ≤ length l.text) × (l.step.at ≤ much))

abbrev pub decreases-loop-turns : goal.decreases-loop-turns
decreases-loop-turns g l = l.turns
