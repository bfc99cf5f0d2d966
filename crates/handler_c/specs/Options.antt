-- An option's bytes as a block value.
use Rattle.std.specs.Prelude.{Option}
use Rattle.block_value.specs.declared.BlockValue.{BlockValue}
use Rattle.block_state.specs.declared.Recorded.{Recorded}
use Rattle.block_state.specs.State.{recording}

-- "Unreadable counts as absent."
abbrev pub block_read : Option BlockValue → Recorded
block_read r = recording r
