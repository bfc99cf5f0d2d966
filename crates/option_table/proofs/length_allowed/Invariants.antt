use Rattle.std.proofs.Common.{◌≡◌, drop}
use Rattle.option_table.specs.Options.{table, look_up, allowed_of}
use Rattle.option_table.proofs.length_allowed.Given as goal

-- What the table says of the length is what the rows ahead say.
abbrev pub invariant-loop-registered : goal.invariant-loop-registered
invariant-loop-registered l = look_up (drop l.registered-index table) l.number l.len ≡ allowed_of l.number l.len
