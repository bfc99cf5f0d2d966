-- What a call does that has its place and then is refused: of any handler.
use Rattle.refusal.specs.declared.Refusal.{Refusal}
use Rattle.std.specs.Prelude.{ℕ, ◌≤◌, ◌<◌, true, ◌≡◌, length}
use Rattle.config.specs.declared.Config.{Config}
use Rattle.block_state.specs.declared.Answer.TheVariants.{Refused}
use Rattle.key_place.specs.Place.{place}
use Rattle.places.specs.Places.{opened}
use Rattle.call.specs.Call.{World, Call, row_of, table_after, within_limits}
use Rattle.one_call.specs.Handler.{Handler}

-- A call that passes checks 1 to 3: within the limits, not before the clock, with a place. (That a table has sixteen entries is given by its type.)
pub record Placed (c : Config) (w : World) (q : Call) : Type 0 where
  pub limits : within_limits c w q ≡ true
  pub sixteen : length w.table.entries ≡ 16
  pub clock : w.table.clock ≤ q.time
  pub place : place q.key (row_of c w q) < 16

-- Document 01: ""Touch" means: expired entries freed, clock recorded, entry present and touched." The entry's state is as it was, or a new one's (a key that had none
-- has an entry then); both memories are as they were.
abbrev pub touched : Config → World → Call → World
touched c w q =
    record {
      table = table_after (row_of c w q) q.time (place q.key (row_of c w q)) (opened q.key (row_of c w q)).key (opened q.key (row_of c w q)).state;
      upload = w.upload;
      response = w.response;
    }

-- The call gets this refusal, and changes nothing but the touch.
abbrev pub RefusesTo : Refusal → Handler → Config → World → Call → Type 0
RefusesTo n h c w q = ((h c w q).answer ≡ Refused n) × ((h c w q).world ≡ touched c w q)
