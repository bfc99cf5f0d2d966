use Rattle.std.proofs.Common.{◌+◌, ◌%◌, ◌^◌, Bool, cond, refl, ap, ◌∙◌, arith}
use Rattle.coapdump.proofs.Lining.{going_start, going_on}
use Rattle.coapdump.proofs.print_lines.Goals as goal

pub loop-end-init : goal.loop-end-init
loop-end-init c =
    let given = c.args.so_far in (
      refl,
      refl,
      refl,
      going_start given.number given.unreadable c.args.text.now _ (omega (arith, c.well_formed)) (omega (arith, c.well_formed)) c.mark_from-end.ensures,
    )

pub loop-end-preserved : goal.loop-end-preserved
loop-end-preserved c =
    let inv = c.loop-end.invariant in
    let bad =
    c.counted-unreadable.ensures ∙ ap (λ (b : Bool). (c.loop-end.unreadable + cond b 1 0) % 2 ^ 64) c.print_line-printed.ensures.unread_value in (
      omega (arith, c.print_line-printed.auto, inv.0),
      omega (arith, c.print_line-printed.auto, inv.1),
      omega (arith, c.print_line-printed.auto, inv.2),
      going_on inv.3 c.loop-end-test.true _ _ _ refl bad c.mark_from-end-in-loop-end.ensures,
    )
