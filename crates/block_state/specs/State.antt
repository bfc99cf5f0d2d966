-- One key's state: what a new one holds, what the steps make of it, and its limits (document 01, "Table and clock").
use Rattle.std.specs.Prelude.{ℕ, ◌+◌, Bool, true, false, cond, not, ◌&&◌, leb, eqb, Option, Some, None}
use Rattle.block_value.specs.declared.BlockValue.{BlockValue}
use Rattle.config.specs.declared.Config.{Config}
use Rattle.block_state.specs.declared.Assembled.{Assembled}
use Rattle.block_state.specs.declared.Cached.{Cached}
use Rattle.block_state.specs.declared.Recorded.{Recorded}
use Rattle.block_state.specs.declared.BlockState.{BlockState}

-- An assembly of n bytes whose last block had this exponent: "that of the last block taken, 0 while nothing is assembled".
abbrev pub assembly : ℕ → ℕ → Assembled
assembly n exponent = record { len = n; exponent = cond (eqb n 0) 0 exponent }

-- "A dropped cache and an absent recorded value are stored as zeros."
abbrev pub no_cache : Cached
no_cache = record { held = false; head = 0; payload = 0 }

abbrev pub caching : ℕ → ℕ → Cached
caching head payload = record { held = true; head = head; payload = payload }

-- "Drop the cache if no more follows."
abbrev pub kept_while : Bool → Cached → Cached
kept_while true cached = cached
kept_while false cached = no_cache

abbrev pub recording : Option BlockValue → Recorded
recording None = record { given = false; more = false; exponent = 0; num = 0 }
recording (Some b) = record { given = true; more = b.more; exponent = b.size_exponent; num = b.num }

abbrev pub recorded_block : Recorded → Option BlockValue
recorded_block r = cond r.given (Some (record { num = r.num; more = r.more; size_exponent = r.exponent })) None

-- A new key "starts with nothing assembled, cached or recorded".
abbrev pub nothing : BlockState
nothing = record { assembled = assembly 0 0; cached = no_cache; recorded = recording None }

abbrev pub with_assembled : BlockState → Assembled → BlockState
with_assembled s a = record { assembled = a; cached = s.cached; recorded = s.recorded }

abbrev pub with_cached : BlockState → Cached → BlockState
with_cached s c = record { assembled = s.assembled; cached = c; recorded = s.recorded }

abbrev pub with_recorded : BlockState → Option BlockValue → BlockState
with_recorded s b = record { assembled = s.assembled; cached = s.cached; recorded = recording b }

-- ---- Limits

-- Off: "an assembled length above U", "an exponent above 7", "an exponent kept with nothing assembled".
unfoldable pub assembled_ok : Config → Assembled → Bool
assembled_ok c a = leb a.len c.upload && leb a.exponent 7 && cond (eqb a.len 0) (eqb a.exponent 0) true

-- Off: "a head above 128, head and payload above V"; or a dropped cache that is not zeros.
unfoldable pub cached_ok : Config → Cached → Bool
cached_ok c h =
    cond h.held
    (leb h.head 128 && leb (h.head + h.payload) c.response)
    (eqb h.head 0 && eqb h.payload 0)

-- Off: "a recorded num above 1,048,575, or an exponent above 7"; or an absent recorded value that is not zeros.
unfoldable pub recorded_ok : Recorded → Bool
recorded_ok r =
    cond r.given
    (leb r.num 1048575 && leb r.exponent 7)
    (eqb r.num 0 && not r.more && eqb r.exponent 0)

unfoldable pub state_ok : Config → BlockState → Bool
state_ok c s = assembled_ok c s.assembled && cached_ok c s.cached && recorded_ok s.recorded

-- The state of a free entry: zeros.
unfoldable pub is_nothing : BlockState → Bool
is_nothing s =
    eqb s.assembled.len 0 && eqb s.assembled.exponent 0
    && not s.cached.held && eqb s.cached.head 0 && eqb s.cached.payload 0
    && not s.recorded.given && eqb s.recorded.num 0 && not s.recorded.more && eqb s.recorded.exponent 0
