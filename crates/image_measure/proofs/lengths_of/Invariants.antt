use mathlib.Core.Path.{◌≡◌}
use lib.ListN.{length, take}
use Rattle.image_format.specs.Image.{assembled_in, cached_in}
use Rattle.image_measure.proofs.lengths_of.Given as goal

abbrev pub invariant-loop-i : goal.invariant-loop-i
invariant-loop-i l =
    record {
      sixteen : (length l.upload ≡ 16) × (length l.response ≡ 16);
      uploads : take l.i l.upload ≡ assembled_in (take l.i l.fn.entries);
      responses : take l.i l.response ≡ cached_in (take l.i l.fn.entries);
    }
