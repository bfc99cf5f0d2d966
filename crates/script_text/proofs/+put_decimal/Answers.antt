use Rattle.std.proofs.Common.{arith}
use Rattle.pieces.proofs.Puts.{put_as, put_then, put-bound}
use Rattle.script_text.proofs.Laws.{one-digit, last-digit, one-longer, decimal-length}
use Rattle.script_text.proofs.+put_decimal.Goals as goal

pub returns-then-n-lt10-clause-put : goal.returns-then-n-lt10-clause-put
returns-then-n-lt10-clause-put t c = put_as c.put_byte.ensures (one-digit _ _ c.if-n-lt10.true c.last_digit.ensures)

pub put_byte-requires-2 : goal.put_byte-requires-2
put_byte-requires-2 t c =
    omega (
      arith,
      one-longer c.args.n c.if-n-lt10.false c.ranges.n.fits,
      decimal-length c.args.n,
      c.requires,
      c.put_decimal-next.ensures.put.to,
      c.put_decimal-next.auto.out,
    )

pub returns : goal.returns
returns t c =
    let digits = put_then c.put_decimal-next.ensures.put c.put_byte-2.ensures in
    let p = put_as digits (last-digit _ _ c.if-n-lt10.false c.ranges.n.fits c.last_digit-2.ensures) in
    record { put = p; upper_bound = put-bound 20 p (decimal-length _) }
