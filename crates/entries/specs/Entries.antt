-- Document 01, "Table and clock", of one entry: in use or free, its limits, and expiry; and expiry of a row.
use Rattle.std.specs.Prelude.{ℕ, Bool, true, false, cond, not, ◌&&◌, List, map, leb, eqb}
use Rattle.config.specs.declared.Config.{Config}
use Rattle.block_state.specs.declared.BlockState.{BlockState}
use Rattle.block_state.specs.State.{nothing, state_ok, is_nothing}
use Rattle.keys.specs.declared.Key.{Key}
use Rattle.expiry.specs.Expiry.{live_by}
use Rattle.entries.specs.declared.Entry.{Entry}
use Rattle.keys.specs.Keys.{Name, same, key_of, stored_ok, no_key, is_no_key}

abbrev pub in_use : Key → ℕ → BlockState → Entry
in_use k touched s = record { key = k; used = true; touched = touched; state = s }

-- "A free entry .. stored as zeros."
abbrev pub free : Entry
free = record { key = no_key; used = false; touched = 0; state = nothing }

-- The entry that a call on the key starts from, of the one at its place: that one, or, if it is free, a new one, which "starts with nothing".
abbrev pub start_from : Key → Entry → Entry
start_from k e = cond e.used e (in_use k 0 nothing)

-- The entry is in use for this key.
unfoldable pub holds : Name → Entry → Bool
holds k e = e.used && same k (key_of e.key)

abbrev pub unused : Entry → Bool
unused e = not e.used

-- ---- Limits (refusal 1)

-- Of an entry in use: a bad key length, "a touch after the recorded clock", and those of its state. A free entry is zeros.
unfoldable pub entry_ok : Config → ℕ → Entry → Bool
entry_ok c clock e =
    cond e.used
    (stored_ok e.key && leb e.touched clock && state_ok c e.state)
    (is_no_key e.key && eqb e.touched 0 && is_nothing e.state)

-- "An entry in use has .. a key that another has."
unfoldable pub clash : Entry → Entry → Bool
clash e f = e.used && holds (key_of e.key) f

-- ---- Expiry

-- The entry is live.
unfoldable pub live : ℕ → ℕ → Entry → Bool
live lifetime time e = live_by e.used e.touched lifetime time

-- "A call that passes checks 1 and 2 first frees every entry that is not live."
unfoldable pub swept : ℕ → ℕ → Entry → Entry
swept lifetime time e = cond (live lifetime time e) e free

-- The same of a row.
unfoldable pub sweep : ℕ → ℕ → List Entry → List Entry
sweep lifetime time l = map (swept lifetime time) l
