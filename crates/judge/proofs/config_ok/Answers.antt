use mathlib.Core.Path.{refl}
use Rattle.judge.specs.Limits.{config_ok}
use Rattle.judge.proofs.config_ok.Goals as goal

pub returns : goal.returns
unfolding config_ok
returns c =
    rw (
      c.between.ensures,
      c.between-2.ensures,
      c.between-3.ensures,
      c.between-4.ensures,
    ) refl
