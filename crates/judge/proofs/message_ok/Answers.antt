use Rattle.judge.specs.Verdict.{message_ok}
use mathlib.Core.Path.{refl}
use Rattle.judge.proofs.message_ok.Goals as goal

pub returns : goal.returns
unfolding message_ok
returns c = refl
