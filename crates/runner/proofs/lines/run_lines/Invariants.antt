use mathlib.Core.Path.{◌≡◌, refl, ap, ◌∙◌}
use mathlib.Core.Bool.{false}
use Prim.Native.Nat.{◌-◌, ◌≤◌}
use native.Mathlib.Omega.{arith}
use lib.ListN.{length, take}
use Rattle.script_state.specs.Start.{much}
use Rattle.script_state.specs.declared.State.{State}
use Rattle.script_state.specs.declared.Step.{Step}
use Rattle.runner.specs.Lines.{standing}
use Rattle.line_runner.proofs.Leaving.{lent-kept}
use Rattle.runner.proofs.Lining.{Going, going_start, going_on, going_done, stands, put-flushed, few}
use borrow.Author.Rules.{rules}
use Rattle.runner.proofs.lines.run_lines.Given as goal

abbrev pub invariant-loop-end : goal.invariant-loop-end
invariant-loop-end l = ((length l.upload ≡ length l.initial.upload) × (length l.response ≡ length l.initial.response) × (length l.scratch ≡ length l.initial.scratch) × (length l.out ≡ length l.initial.out))
    × ((l.here.at ≤ much) × (l.initial.here.written ≡ false → l.here.written ≡ false)
    × Going l.replay l.text (standing l.initial.here.state l.initial.upload l.initial.response) (standing l.here.state l.upload l.response) (take l.initial.here.at l.initial.out) (take l.here.at l.out) l.from l.end)

abbrev pub decreases-loop-end : goal.decreases-loop-end
decreases-loop-end l = length l.text - l.from
