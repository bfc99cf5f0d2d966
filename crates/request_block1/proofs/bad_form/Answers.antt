use Rattle.request_block1.specs.Block1.{bad_form}
use Rattle.request_block1.proofs.bad_form.Goals as goal

pub returns : goal.returns
unfolding bad_form
returns c = rw c.size-size.ensures
