use native.Mathlib.Omega.{arith}
use Rattle.block_state.specs.State.{state_ok}
use Rattle.state_limits.proofs.state_checked.Goals as goal

pub returns : goal.returns
unfolding state_ok
returns c = (
  rw (c.assembled_ok.ensures, c.cached_checked-held.ensures.0, c.recorded_ok.ensures),
  rw (c.from.ensures, c.cached_checked-held.ensures.1),
  omega (arith, c.cached_checked-held.ensures.2),
)
