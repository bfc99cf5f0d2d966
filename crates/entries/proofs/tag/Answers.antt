use Rattle.entries.specs.Quick.{tag_of}
use Rattle.entries.proofs.tag.Goals as goal

pub returns-then-e : goal.returns-then-e
unfolding tag_of
returns-then-e c = rw c.if-e.true c.tag.ensures

pub returns : goal.returns
unfolding tag_of
returns c = rw c.if-e.false
