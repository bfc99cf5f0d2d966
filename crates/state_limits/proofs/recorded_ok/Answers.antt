use Rattle.block_state.specs.State.{recorded_ok}
use Rattle.state_limits.proofs.recorded_ok.Goals as goal

pub returns-then-recorded : goal.returns-then-recorded
unfolding recorded_ok
returns-then-recorded c = rw c.if-recorded.true

pub returns : goal.returns
unfolding recorded_ok
returns c = rw c.if-recorded.false
