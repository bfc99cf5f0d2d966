use native.Mathlib.Omega.{arith}
use Rattle.block_state.specs.State.{cached_ok}
use Rattle.state_limits.proofs.cached_checked.Goals as goal

pub returns-then-cached : goal.returns-then-cached
unfolding cached_ok
returns-then-cached c =
    let held = c.if-cached.true in
    (rw (held, c.cached_bytes-bytes.ensures.0), rw (held, c.cached_bytes-bytes.ensures.0), c.cached_bytes-bytes.ensures.1)

pub returns : goal.returns
unfolding cached_ok
returns c = let left = c.if-cached.false in (rw left, rw left, omega arith)
