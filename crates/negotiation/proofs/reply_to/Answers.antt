use native.Mathlib.Omega.{arith}
use Rattle.block_value.proofs.Laws.{size-most}
use Rattle.negotiation.proofs.reply_to.Goals as goal

pub reply_at-requires : goal.reply_at-requires
reply_at-requires c = let small = rw (← c.size.ensures) at (size-most c.args.block.size_exponent) in (c.start.ensures.1, omega (arith, small))
