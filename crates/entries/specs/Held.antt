-- The bytes that entries hold, "over entries in use" (document 02).
use Rattle.std.specs.Prelude.{ℕ, ◌+◌, cond, List, [], ◌∷◌}
use Rattle.block_state.specs.Held.{held_of}
use Rattle.entries.specs.declared.Entry.{Entry}

-- Of one entry; 0 where it is free.
unfoldable pub held_by : Entry → ℕ
held_by e = cond e.used (held_of e.state) 0

-- Of a row: the walk over it.
unfoldable pub held : List Entry → ℕ
held [] = 0
held (e ∷ rest) = held_by e + held rest
