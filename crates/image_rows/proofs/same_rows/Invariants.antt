use mathlib.Core.Path.{◌≡◌}
use mathlib.Core.Bool.{◌&&◌}
use Prim.Native.Nat.{◌+◌, ◌*◌}
use lib.ListN.{drop}
use Rattle.pieces.specs.Memory.{part}
use Rattle.keys.specs.Keys.{same}
use Rattle.image_format.specs.Rows.{rows_from, count}
use Rattle.image_rows.proofs.same_rows.Given as goal

abbrev pub invariant-loop-i : goal.invariant-loop-i
invariant-loop-i l =
    let left = drop l.i l.fn.entries in
    record {
      ends : l.at + 96 * count left ≡ 32 + 96 * count l.fn.entries;
      left_same : (l.same && same (rows_from l.i left) (part l.image l.at (96 * count left))) ≡ same (rows_from 0 l.fn.entries) (part l.image 32 (96 * count l.fn.entries));
    }
