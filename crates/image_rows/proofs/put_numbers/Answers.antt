use mathlib.Core.Path.{ap}
use Rattle.pieces.proofs.Puts.{put_then, put_as}
use Rattle.big_endian.specs.Numbers.{in_bytes}
use borrow.Author.Rules.{rules}
use Rattle.image_rows.proofs.put_numbers.Goals as goal

pub returns : goal.returns
returns c = (
  put_then (put_as c.put_number-to.ensures.0 (ap (in_bytes 4) c.from.ensures))
      (put_then (put_as c.put_number-to-2.ensures.0 (ap (in_bytes 4) c.from-2.ensures))
      (put_then (put_as c.put_number-to-3.ensures.0 (ap (in_bytes 4) c.from-3.ensures))
      (put_then c.put_number-to-4.ensures.0 c.put_number.ensures.0))),
  search rules,
)
