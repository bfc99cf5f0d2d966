use Rattle.lent_steps.specs.Lent.{usable}
use Rattle.lent_steps.proofs.usable.Goals as goal

pub returns : goal.returns
unfolding usable
returns c = rw c.state_ok.ensures
