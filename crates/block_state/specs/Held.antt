-- The bytes that one key's state holds: "assembled length plus head and payload length of a cached response" (document 02).
use Rattle.std.specs.Prelude.{ℕ, ◌+◌, cond}
use Rattle.block_state.specs.declared.Cached.{Cached}
use Rattle.block_state.specs.declared.BlockState.{BlockState}

-- Of a cached response; 0 where none is cached.
abbrev pub held_in : Cached → ℕ
held_in h = cond h.held (h.head + h.payload) 0

abbrev pub held_of : BlockState → ℕ
held_of s = s.assembled.len + held_in s.cached
