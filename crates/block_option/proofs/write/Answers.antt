use mathlib.Core.Path.{sym, ap}
use Rattle.block_option.specs.Option.{in_three}
use Rattle.block_option.proofs.Laws.{short-0, short-1, short-2, short-3}
use Rattle.block_option.proofs.write.Goals as goal

pub returns-then-scalar-eq0 : goal.returns-then-scalar-eq0
returns-then-scalar-eq0 c = sym (rw (← c.pack-scalar.ensures.0) (ap in_three (short-0 _ c.if-scalar-eq0.true)))

pub returns-then-scalar-lt256 : goal.returns-then-scalar-lt256
returns-then-scalar-lt256 c = sym (rw (← c.pack-scalar.ensures.0) (ap in_three (short-1 _ c.if-scalar-eq0.false c.if-scalar-lt256.true)))

pub returns-then-scalar-lt65536 : goal.returns-then-scalar-lt65536
returns-then-scalar-lt65536 c = sym (rw (← c.pack-scalar.ensures.0) (ap in_three (short-2 _ c.if-scalar-eq0.false c.if-scalar-lt256.false c.if-scalar-lt65536.true)))

pub returns : goal.returns
returns c = sym (rw (← c.pack-scalar.ensures.0) (ap in_three (short-3 _ c.if-scalar-eq0.false c.if-scalar-lt256.false c.if-scalar-lt65536.false c.pack-scalar.ensures.1)))
