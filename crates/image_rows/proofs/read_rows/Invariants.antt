use mathlib.Core.Path.{◌≡◌}
use Prim.Native.Nat.{◌+◌, ◌-◌, ◌*◌}
use lib.ListN.{length, drop, replicate}
use Rattle.entries.specs.Entries.{free}
use Rattle.image_format.specs.Rows.{read_rows}
use Rattle.image_rows.proofs.read_rows.Given as goal

abbrev pub invariant-loop-j : goal.invariant-loop-j
invariant-loop-j l =
    record {
      sixteen : length l.entries ≡ 16;
      left : read_rows l.entries (l.n - l.j) (drop (32 + 96 * l.j) l.fn.image) ≡ read_rows (replicate 16 free) l.n (drop 32 l.fn.image);
    }
