use native.Mathlib.Omega.{arith}
use Rattle.line_runner.proofs.Leaving.{from_start, leaves-shown}
use Rattle.line_runner.proofs.show.Goals as goal

pub returns : goal.returns
returns c =
    leaves-shown _ _ _ _ (from_start _ c.memory_of-u.ensures.0) (from_start _ c.memory_of-v.ensures.0)
    c.put_state-at.ensures.put (omega (arith, c.put_state-at.ensures.upper_bound))
