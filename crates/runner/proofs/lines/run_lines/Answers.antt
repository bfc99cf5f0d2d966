use mathlib.Core.Path.{◌≡◌, refl, ap, ◌∙◌}
use mathlib.Core.Bool.{false}
use Prim.Native.Nat.{◌-◌, ◌≤◌}
use native.Mathlib.Omega.{arith}
use lib.ListN.{length, take}
use Rattle.script_state.specs.Start.{much}
use Rattle.script_state.specs.declared.State.{State}
use Rattle.script_state.specs.declared.Step.{Step}
use Rattle.runner.specs.Lines.{standing}
use Rattle.line_runner.proofs.Leaving.{lent-kept}
use Rattle.runner.proofs.Lining.{Going, going_start, going_on, going_done, stands, put-flushed, few}
use borrow.Author.Rules.{rules}
use Rattle.runner.proofs.lines.run_lines.Goals as goal

pub loop-end-init : goal.loop-end-init
loop-end-init c = ((refl, refl, refl, refl), (c.requires.at_le_much, λ e. e, going_start _ _ _ _ _ c.mark_from-end.ensures))

pub slice_bounds-run_any-count : goal.slice_bounds-run_any-count
slice_bounds-run_any-count c = omega (arith, c.loop-end.invariant.1.2.cut.after, c.loop-end.invariant.1.2.cut.within)

pub slice_bounds-run_any-start : goal.slice_bounds-run_any-start
slice_bounds-run_any-start c = omega (arith, c.loop-end.invariant.1.2.cut.after, c.loop-end.invariant.1.2.cut.within)

pub slice_bounds-run_any-end : goal.slice_bounds-run_any-end
slice_bounds-run_any-end c = omega (arith, c.loop-end.invariant.1.2.cut.after, c.loop-end.invariant.1.2.cut.within)

pub run_any-ran-requires : goal.run_any-ran-requires
run_any-ran-requires c = record { lent = lent-kept c.requires.lent c.loop-end.invariant.0; at_le_much = omega (arith, ap (λ (x : Step). x.at) c.counted-next.ensures, c.loop-end.invariant.1.0) }

pub flushed-here-requires : goal.flushed-here-requires
flushed-here-requires c = omega (arith, c.run_any-ran.ensures.room, c.run_any-ran.auto, ap (λ (x : Step). x.at) c.counted-next.ensures, c.loop-end.invariant.0, c.loop-end.invariant.1.0, c.requires.lent.output)

pub overflow_add-from : goal.overflow_add-from
overflow_add-from c = omega (arith, c.loop-end-test.true, c.well_formed.1.1.0)

pub mark_from-end-requires-in-loop-end : goal.mark_from-end-requires-in-loop-end
mark_from-end-requires-in-loop-end c = omega (arith, c.loop-end-test.true)

pub loop-end-smaller : goal.loop-end-smaller
loop-end-smaller c = omega (arith, c.loop-end-test.true, c.loop-end.invariant.1.2.cut.after)

pub loop-end-preserved : goal.loop-end-preserved
loop-end-preserved c =
    let kept = c.run_any-ran.auto in
    let left = rw c.counted-next.ensures at c.run_any-ran.ensures in
    let stood = standing c.loop-end.here.state c.loop-end.upload c.loop-end.response in (
      (omega (arith, kept, c.loop-end.invariant.0), omega (arith, kept, c.loop-end.invariant.0), omega (arith, kept, c.loop-end.invariant.0), omega (arith, kept, c.loop-end.invariant.0)),
      (
        few c.run_any-ran.result.at _ c.flushed-here.ensures.state_value.1,
        λ e. c.flushed-here.ensures.written_value_2 (left.written ∙ c.loop-end.invariant.1.1 e),
        going_on _ _ _ _ _ _ _ _ c.loop-end.invariant.1.2 c.loop-end-test.true _ _ _
            (ap (λ (x : State). standing x c.run_any-ran.new.upload c.run_any-ran.new.response) c.flushed-here.ensures.state_value.0 ∙ stands _ stood _ left refl refl)
            (put-flushed left.text c.flushed-here.ensures.state_value.1) c.mark_from-end-in-loop-end.ensures,
      ),
    )

pub returns : goal.returns
returns c =
    let done = going_done _ _ _ _ _ _ _ _ c.loop-end.invariant.1.2 c.loop-end-test.false in
    record { response_after = done.0; out_after = done.1.0; from_in_bounds = done.1.1; at_le_much_2 = (c.loop-end.invariant.1.0, c.loop-end.invariant.1.1) }
