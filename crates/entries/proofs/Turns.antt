-- What loops over a row of entries read past its end. Assumes nothing.
use mathlib.Core.Bool.{false}
use Rattle.block_state.specs.State.{nothing}
use Rattle.keys.proofs.Turns.{nil_key}
use Rattle.entries.specs.declared.Entry.{Entry}

-- What an index past the end of a row reads, as Rattle has it. Below the length it does not matter.
abbrev pub nil : Entry
nil = record { key = nil_key; used = false; touched = 0; state = nothing }
