-- OTHER LANES' CLOCKS, AND THE KEY'S OWN RESPONSES. Demand 3, also where sizes fall (Falling.antt), asks that no call's time is before that of the call before it, and that the
-- key has no call but the blocks. Less will do. Each REQUEST ON THE KEY is not before any call that came ahead of it; other calls may go back as they like: before the clock they
-- are refused, and change nothing. (A call that is ahead of its time is another matter: unless it is refused with 1 or 3 it sets the clock, and whoever comes before that time is
-- refused.) And RESPONSES ON THE KEY may stand anywhere, as they do wherever a body that was handed on is answered.
use Rattle.std.specs.Prelude.{ℕ, ◌≤◌, max, Bool, true, false, cond, ◌&&◌, ◌≡◌, ◌⊎◌, List, [], ◌∷◌, map}
use Rattle.config.specs.declared.Config.{Config}
use Rattle.block_state.specs.Message.{What, request, response}
use Rattle.keys.specs.Keys.{Name, same}
use Rattle.call.specs.Call.{World, Call}
use Rattle.one_call.specs.Handler.{Handler}
use Rattle.demands.specs.Demand3.{Seen, seen, Sent, call_on, joined, HasLive, HasFree, NothingInPlain, Within, HandsOn}
use Rattle.demands.specs.Falling.{FallingBlocks, Demand3Falling}

abbrev pub is_request : What → Bool
is_request (request r) = true
is_request (response r) = false

-- The call is a request on key k.
abbrev pub asks : Name → Call → Bool
asks k q = same k q.key && is_request q.what

-- The requests on key k, in order, and what is seen of them in the run.
abbrev pub requests_on : Name → List Call → List Call
requests_on k [] = []
requests_on k (q ∷ calls) = cond (asks k q) (q ∷ requests_on k calls) (requests_on k calls)

abbrev pub run_on : Name → Handler → Config → World → List Call → List Seen
run_on k h c w [] = []
run_on k h c w (q ∷ calls) = cond (asks k q) (seen q (h c w q) ∷ run_on k h c (h c w q).world calls) (run_on k h c (h c w q).world calls)

-- Each request on key k is not before t, the latest time so far; and so for the calls behind it, with its own time counted in.
abbrev pub OwnRising : Name → ℕ → List Call → Type 0
OwnRising k t [] = Unit {0}
OwnRising k t (q ∷ calls) = (asks k q ≡ true → t ≤ q.time) × OwnRising k (max t q.time) calls

-- As `Granted` of demand 3, in all but `own` and `clock`.
pub record GrantedOwn (c : Config) (w : World) (k : Name) (first : Sent) (rest : List Sent) (later : List Call) : Type 0 where
  pub entry : HasLive c w first.time k ⊎ HasFree c w first.time
  pub nothing : NothingInPlain c w first.time k
  pub within : Within c w k first later
  -- The key's requests are the blocks.
  pub own : requests_on k later ≡ map (call_on k) rest
  -- They are not before the recorded clock, nor before any call ahead of them.
  pub clock : OwnRising k w.table.clock (call_on k first ∷ later)

unfoldable pub Demand3Own : Handler → Type 0
Demand3Own h =
    (c : Config) (w : World) (k : Name) (x : ℕ → ℕ) (first : Sent) (rest : List Sent) (later : List Call) → FallingBlocks c x first rest
    → GrantedOwn c w k first rest later → HandsOn (joined first rest) (run_on k h c w (call_on k first ∷ later))

-- It is the stronger: the statement of Falling.antt follows from it, for any handler, and so does demand 3.
unfoldable pub Stronger : Type 0
Stronger = (h : Handler) → Demand3Own h → Demand3Falling h
