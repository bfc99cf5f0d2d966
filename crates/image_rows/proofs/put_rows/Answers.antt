use mathlib.Core.Path.{◌≡◌, refl, ap}
use Prim.Native.Nat.{◌<◌}
use native.Mathlib.Omega.{arith}
use lib.ListN.{length, drop, drop_of_length-le}
use lib.Seq.{take_all}
use Rattle.pieces.proofs.Puts.{put-none, put_then, put_as}
use Rattle.image_format.specs.Rows.{rows_from, count}
use Rattle.image_rows.proofs.Turns.{rows_next, count_step}
use borrow.Author.Rules.{rules}
use Rattle.image_rows.proofs.put_rows.Goals as goal

pub loop-i-init : goal.loop-i-init
loop-i-init c = record { ends = refl; put = put-none _ _ (omega arith) }

pub loop-i-preserved : goal.loop-i-preserved
loop-i-preserved c =
    let l = c.args.entries in
    let here : c.loop-i.i < length l = search rules in
    record {
      ends = omega (arith, count_step l c.loop-i.i here, c.put_used-to.ensures.1);
      put = put_as (put_then c.loop-i.invariant.put c.put_used-to.ensures.0) (rows_next l c.loop-i.i here);
    }

pub returns : goal.returns
returns c =
    let l = c.args.entries in
    let none : count (drop c.loop-i.i l) ≡ 0 = rw (drop_of_length-le l {i = c.loop-i.i} (search rules)) in
    (put_as c.loop-i.invariant.put (ap (rows_from 0) (take_all c.loop-i.i l (search rules))), omega (arith, none))
