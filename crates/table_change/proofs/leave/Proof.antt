use borrow.Author.Rules.{rules}
use Rattle.table_change.proofs.leave.Statement.{statement}
use Rattle.table_change.proofs.leave.Tie as tie

returns : tie.Need-returns
returns c = rw c.before.held_by.ensures.0

pub leave_spec : {M : Type 1} → statement M
leave_spec = tie.close (tie.spec (λ c κs. search rules) (λ c. search rules) returns)
