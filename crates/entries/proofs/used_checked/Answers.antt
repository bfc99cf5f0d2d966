use Rattle.entries.specs.Entries.{entry_ok}
use Rattle.entries.specs.Held.{held_by}
use Rattle.entries.proofs.used_checked.Goals as goal

pub returns : goal.returns
unfolding entry_ok held_by
returns c =
    let used = c.requires in
    (rw (used, c.state_checked-found.ensures.0, c.stored_ok.ensures), rw (used, c.state_checked-found.ensures.1), c.state_checked-found.ensures.2)
