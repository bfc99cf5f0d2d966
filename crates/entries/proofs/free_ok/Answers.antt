use Rattle.entries.specs.Entries.{entry_ok}
use Rattle.entries.proofs.free_ok.Goals as goal

pub returns : goal.returns
unfolding entry_ok
returns c = (rw (c.requires, c.is_nothing.ensures, c.is_no_key.ensures.0), c.is_no_key.ensures.1)
