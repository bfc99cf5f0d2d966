use mathlib.Core.Path.{◌≡◌}
use Prim.Native.Nat.{◌+◌, ◌*◌}
use lib.ListN.{take, drop}
use Rattle.pieces.specs.Memory.{Put}
use Rattle.image_format.specs.Rows.{rows_from, count}
use Rattle.image_rows.proofs.put_rows.Given as goal

abbrev pub invariant-loop-i : goal.invariant-loop-i
invariant-loop-i l =
    record {
      ends : l.to + 96 * count (drop l.i l.fn.entries) ≡ l.start + 96 * count l.fn.entries;
      put : Put l.initial.out l.start (rows_from 0 (take l.i l.fn.entries)) l.out l.to;
    }
