use mathlib.Core.Path.{◌≡◌, refl}
use mathlib.Core.Bool.{Bool, true, false, cond, not, ◌||◌}
use lib.Dec.{eqb}
use Rattle.block_state.specs.State.{assembled_ok}
use Rattle.state_limits.proofs.assembled_ok.Goals as goal

unless : (b x : Bool) → (not b || x) ≡ cond b x true
unless true x = refl
unless false x = refl

pub returns : goal.returns
unfolding assembled_ok
returns c = rw (unless (eqb c.args.assembled.len 0))
