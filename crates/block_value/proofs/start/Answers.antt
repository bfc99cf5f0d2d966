use Rattle.block_value.proofs.Laws.{size-most}
use Rattle.block_value.proofs.start.Goals as goal

pub times-requires : goal.times-requires
times-requires c = rw c.size.ensures (size-most c.args.block.size_exponent)
