use mathlib.Core.Path.{refl}
use Rattle.keys.specs.Keys.{stored_ok}
use Rattle.keys.proofs.stored_ok.Goals as goal

pub returns : goal.returns
unfolding stored_ok
returns c = refl
