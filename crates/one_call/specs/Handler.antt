-- What promises are stated over: a handler, and an entry of the table that it works on.
use Rattle.std.specs.Prelude.{ℕ}
use Rattle.config.specs.declared.Config.{Config}
use Rattle.entries.specs.declared.Entry.{Entry}
use Rattle.block_table.specs.Table.{at}
use Rattle.call.specs.Call.{World, Call, Done}

-- Any function from the configuration, the table and memories, and a call, to what is left of them and the answer.
abbrev pub Handler : Type 0
Handler = Config → World → Call → Done

-- Entry i of its table.
abbrev pub entry_at : World → ℕ → Entry
entry_at w i = at w.table.entries i
