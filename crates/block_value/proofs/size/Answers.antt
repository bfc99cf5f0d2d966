use Rattle.block_value.proofs.Laws.{size-shifted}
use Rattle.block_value.proofs.size.Goals as goal

pub returns : goal.returns
returns c = size-shifted c.args.block.size_exponent
