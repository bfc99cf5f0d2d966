use Rattle.std.proofs.Common.{refl}
use Rattle.keys.specs.Keys.{key_ok}
use Rattle.named_keys.proofs.key_ok.Goals as goal

pub returns : goal.returns
unfolding key_ok
returns c = refl
