-- How the code judges a call before it takes its step: by what is seen of the table, and by numbers, the same for requests and responses. No contract of
-- the handler's two calls, nor of an export, cites this.
use Rattle.std.specs.Prelude.{ℕ, Bool, cond, not, ◌&&◌, ◌≡◌, leb, ltb, Result, Ok, Err}
use Rattle.refusal.specs.declared.Refusal.{Refusal}
use Rattle.refusal.specs.declared.Refusal.TheVariants as refusal
use Rattle.config.specs.declared.Config.{Config}
use Rattle.block_table.specs.declared.Table.{Table}
use Rattle.keys.specs.Keys.{Name, key_ok}
use Rattle.entries.specs.Entries.{sweep}
use Rattle.block_table.specs.Table.{table_ok}
use Rattle.places.specs.declared.Place.{Place as Spot}
use Rattle.places.specs.declared.Place.TheVariants.{At, None, OffLimits}
use Rattle.places.specs.Places.{place_of}
use Rattle.places.specs.declared.Sight.{Sight}
use Rattle.places.specs.Sight.{Sees}
use Rattle.judge.specs.declared.Lengths.{Lengths}
use Rattle.judge.specs.Limits.{config_ok, memories_ok}

-- The lengths of both memories, and of the message: without payload, of its payload, and of its head (0 for a request).
abbrev pub lengths : ℕ → ℕ → ℕ → ℕ → ℕ → Lengths
lengths upload response bare payload head = record { upload = upload; response = response; bare = bare; payload = payload; head = head }

-- The limits of a message.
unfoldable pub message_ok : ℕ → ℕ → ℕ → Bool
message_ok bare payload head = leb bare 65535 && leb payload 65535 && leb head 128

unfoldable pub limits_ok : Config → Table → Name → Lengths → Bool
limits_ok c t key n = config_ok c && memories_ok c n.upload n.response && key_ok key && message_ok n.bare n.payload n.head && table_ok c t

-- What a place comes to; `early` says that the time is before the clock.
abbrev pub verdict_at : Bool → Spot → Result ℕ Refusal
verdict_at early OffLimits = Err refusal.OffLimits
verdict_at early None = cond early (Err refusal.ClockBack) (Err refusal.TableFull)
verdict_at early (At i) = cond early (Err refusal.ClockBack) (Ok i)

-- Checks 1, 2 and 3, or the key's place in the swept row.
unfoldable pub verdict_of : Config → Table → ℕ → Name → Lengths → Result ℕ Refusal
verdict_of c t time key n =
    cond (not (limits_ok c t key n)) (Err refusal.OffLimits) (verdict_at (ltb time t.clock) (place_of key (sweep c.lifetime time t.entries)))

-- The same by what is seen of the table.
unfoldable pub verdict_by : Config → Sight → ℕ → Lengths → Result ℕ Refusal
verdict_by c s time n =
    cond (not (config_ok c && memories_ok c n.upload n.response && message_ok n.bare n.payload n.head)) (Err refusal.OffLimits)
    (verdict_at (ltb time s.clock) s.place)

-- The table seen as `sight` has place i for the call.
abbrev pub HasPlace : Config → Sight → ℕ → Name → Lengths → ℕ → Table → Type 0
HasPlace c sight time key n i t = Sees c time key t sight × (verdict_of c t time key n ≡ Ok i)
