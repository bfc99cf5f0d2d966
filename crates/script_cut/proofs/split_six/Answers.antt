use Rattle.script_cut.proofs.Splitting.{fewer, more, exactly}
use Rattle.script_cut.proofs.split_six.Goals as goal

pub returns-then-line-fifth : goal.returns-then-line-fifth
returns-then-line-fifth c =
    fewer c.mark_from-first.ensures c.next_from-second.ensures c.next_from-third.ensures c.next_from-fourth.ensures
    c.next_from-fifth.ensures c.next_from-sixth.ensures c.if-line-fifth.true

pub returns-then-sixth-line : goal.returns-then-sixth-line
returns-then-sixth-line c =
    more c.mark_from-first.ensures c.next_from-second.ensures c.next_from-third.ensures c.next_from-fourth.ensures
    c.next_from-fifth.ensures c.next_from-sixth.ensures c.if-sixth-line.true

pub returns : goal.returns
returns c =
    exactly c.mark_from-first.ensures c.next_from-second.ensures c.next_from-third.ensures c.next_from-fourth.ensures
    c.next_from-fifth.ensures c.next_from-sixth.ensures c.if-line-fifth.false c.if-sixth-line.false
