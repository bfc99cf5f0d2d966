use Rattle.std.proofs.Common.{length}
use Rattle.keys.specs.Keys.{stored}
use Rattle.keys.proofs.Turns.{drop-zeros}
use Rattle.named_keys.proofs.stored_key.Goals as goal

pub returns : goal.returns
unfolding stored
returns c = rw (c.copy_from_slice.ensures.after, drop-zeros 64 (length c.args.key.now) c.requires)
