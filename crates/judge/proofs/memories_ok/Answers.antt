use Rattle.judge.specs.Limits.{memories_ok}
use mathlib.Core.Path.{refl}
use Rattle.judge.proofs.memories_ok.Goals as goal

pub returns : goal.returns
unfolding memories_ok
returns c = refl
