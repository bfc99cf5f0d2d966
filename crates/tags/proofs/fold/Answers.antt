use Rattle.std.proofs.Common.{refl}
use Rattle.tags.specs.Tags.{folded}
use Rattle.tags.proofs.fold.Goals as goal

pub returns : goal.returns
unfolding folded
returns c = refl
