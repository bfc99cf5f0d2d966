use mathlib.Core.Path.{◌≡◌}
use Prim.Native.Nat.{◌+◌, ◌-◌, ◌*◌, ◌≤◌, ◌<◌}
use native.Mathlib.Omega.{arith}
use lib.ListN.{length, drop}
use Rattle.pieces.specs.Memory.{part}
use Rattle.image_format.specs.Rows.{count}
use Rattle.image_rows.proofs.Turns.{count_step, same-used, same-unused, same_end}
use borrow.Author.Rules.{rules}
use Rattle.image_rows.proofs.same_rows.Goals.{then-e, else-e}
use Rattle.image_rows.proofs.same_rows.Goals as goal

pub loop-i-preserved : goal.loop-i-preserved
unfolding part
loop-i-preserved c =
    let l = c.args.entries in
    let inv = c.loop-i.invariant in
    let here : c.loop-i.i < length l = search rules in
    let step = count_step l c.loop-i.i here in
    let room : c.loop-i.at + 96 * count (drop c.loop-i.i l) ≤ length c.args.image.now = omega arith in
    let long : c.loop-i.at + 96 - c.loop-i.at ≡ 96 = omega arith in
    elim c.if-e.branch [
      | then-e w ↦
          let used = same-used l c.loop-i.i here c.args.image.now c.loop-i.at c.loop-i.same _ room inv.left_same w.if-e.true w.same_row-same.ensures.1 in
          rw (w.same-is, w.at-is) record { ends = omega (arith, rw w.if-e.true at step); left_same = rw (rw long at w.same_row-same.ensures.0) used }
      | else-e w ↦
          let unused = same-unused l c.loop-i.i here c.args.image.now c.loop-i.at c.loop-i.same _ room inv.left_same w.if-e.false in
          rw (w.same-is, w.at-is) record { ends = omega (arith, rw w.if-e.false at step); left_same = unused }
    ]

pub returns : goal.returns
unfolding part
returns c = same_end c.args.entries c.loop-i.i _ c.loop-i.same _ (search rules) c.loop-i.invariant.left_same
