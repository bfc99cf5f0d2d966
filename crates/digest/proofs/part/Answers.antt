use Rattle.digest.proofs.Words.{low_bytes}
use Rattle.digest.proofs.part.Goals as goal

pub returns : goal.returns
returns c = low_bytes c.args.w c.args.count c.requires
