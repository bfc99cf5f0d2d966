-- The text of an entry: INDEX,KEY,TOUCHED,ASSEMBLED,KEPT,CACHE,RECORDED.
use Rattle.std.specs.Prelude.{ℕ, cond, ◌∷◌, ◌++◌}
use Rattle.script_cut.specs.Cut.{Bytes}
use Rattle.script_text.specs.Text.{decimal, hex, maybe_text, none}
use Rattle.block_state.specs.declared.Assembled.{Assembled}
use Rattle.block_state.specs.declared.Cached.{Cached}
use Rattle.block_state.specs.declared.Recorded.{Recorded}
use Rattle.block_state.specs.declared.BlockState.{BlockState}
use Rattle.block_state.specs.State.{recorded_block}
use Rattle.keys.specs.Keys.{key_of}
use Rattle.keys.specs.declared.Key.{Key}
use Rattle.entries.specs.declared.Entry.{Entry}

-- Two numbers, and a byte between them.
unfoldable pub pair_text : ℕ → ℕ → ℕ → Bytes
pair_text first between second = decimal first ++ (between ∷ decimal second)

-- ASSEMBLED,KEPT: a length, and the exponent that is kept (not a size).
abbrev pub assembled_text : Assembled → Bytes
assembled_text a = pair_text a.len 44 a.exponent

-- CACHE: a dash, or HEAD+PAYLOAD.
unfoldable pub cached_text : Cached → Bytes
cached_text c = cond c.held (pair_text c.head 43 c.payload) none

-- RECORDED: a dash, or num/more/size.
abbrev pub recorded_text : Recorded → Bytes
recorded_text r = maybe_text (recorded_block r)

-- INDEX,KEY,TOUCHED
unfoldable pub who_text : ℕ → Key → ℕ → Bytes
who_text i key touched = decimal i ++ (44 ∷ hex (key_of key) ++ (44 ∷ decimal touched))

-- ASSEMBLED,KEPT,CACHE,RECORDED
unfoldable pub what_text : BlockState → Bytes
what_text s = assembled_text s.assembled ++ (44 ∷ cached_text s.cached ++ (44 ∷ recorded_text s.recorded))

-- One entry in use, whole.
unfoldable pub entry_text : ℕ → Entry → Bytes
entry_text i e = who_text i e.key e.touched ++ (44 ∷ what_text e.state)
