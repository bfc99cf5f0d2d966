use mathlib.Core.Path.{ap}
use Rattle.pieces.proofs.Puts.{put_then, put_as}
use Rattle.big_endian.specs.Numbers.{in_bytes}
use Rattle.image_format.specs.Image.{header}
use borrow.Author.Rules.{rules}
use Rattle.image_measure.proofs.put_header.Goals as goal

pub returns : goal.returns
unfolding header
returns c = (
  put_then c.put_word-at.ensures.0 (put_then (put_as c.put_word-at-2.ensures.0 (ap (in_bytes 4) c.measure-n.ensures.0)) (put_then c.put_word-at-3.ensures.0
      (put_then (put_as c.put_word-at-4.ensures.0 (ap (in_bytes 4) c.measure-n.ensures.1)) (put_then (put_as c.put_word-at-5.ensures.0 (ap (in_bytes 4) c.measure-n.ensures.2))
      (put_then (put_as c.put_word-at-6.ensures.0 (ap (in_bytes 4) c.measure-n.ensures.3)) c.put_number.ensures.0))))),
  search rules,
)
