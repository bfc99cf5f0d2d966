-- SIXTEEN TRANSFERS CROSS. From a fresh table: any calls in any order, so long as those that count are over at most sixteen keys. Take a key whose requests are pushes
-- as Falling.antt of demands has them, one after another, as many as you like, with its responses anywhere between: each push is answered Continue .., Handed with
-- exactly its joined blocks. What the other keys' calls are does not matter; if each of the sixteen keys sends pushes, each of the sixteen is served so. In both modes.
use Rattle.refusal.specs.declared.Refusal.TheVariants.{OffLimits, ClockBack}
use Rattle.std.specs.Prelude.{ℕ, ◌≤◌, Bool, true, false, cond, ◌&&◌, ◌||◌, ◌≡◌, List, [], ◌∷◌, ◌++◌, map, length, take, drop, leb}
use Rattle.config.specs.declared.Config.{Config}
use Rattle.block_state.specs.declared.Answer.TheVariants.{Refused}
use Rattle.keys.specs.Keys.{Name, same, key_ok}
use Rattle.call.specs.Call.{World, Call, done, what_ok}
use Rattle.one_call.specs.Handler.{Handler}
use Rattle.demands.specs.Clocks.{asks, requests_on}
use Rattle.demands.specs.Falling.{FallingBlocks}
use Rattle.demands.specs.Demand3.{Seen, seen, Sent, call_on, joined, All, AllBytes, Fresh, HandsOn}

-- ---- Which calls count

-- The call's own key, bare, payload and head are within the limits: where configuration, table and memories are, it gets no refusal 1.
abbrev pub in_form : Call → Bool
in_form q = key_ok q.key && what_ok q.what

-- A call counts if it is in form and its time is not before t, that of the last call that counted. (Else it is refused, with 1 or 2, and takes no entry.)
abbrev pub counts : ℕ → Call → Bool
counts t q = in_form q && leb t q.time

-- The calls that count, where the clock stands at t.
abbrev pub counted : ℕ → List Call → List Call
counted t [] = []
counted t (q ∷ calls) = cond (counts t q) (q ∷ counted q.time calls) (counted t calls)

-- What is seen of those of them that are requests on key k, in the run of all calls.
abbrev pub seen_counted : Name → Handler → Config → World → ℕ → List Call → List Seen
seen_counted k h c w t [] = []
seen_counted k h c w t (q ∷ calls) =
    cond (counts t q)
    (cond (asks k q) (seen q (h c w q) ∷ seen_counted k h c (h c w q).world q.time calls) (seen_counted k h c (h c w q).world q.time calls))
    (seen_counted k h c (h c w q).world t calls)

-- The calls that do not count are refused, with 1 if they are not in form and else with 2, and change nothing.
abbrev pub UncountedRefused : Handler → Config → World → ℕ → List Call → Type 0
UncountedRefused h c w t [] = Unit {0}
UncountedRefused h c w t (q ∷ calls) =
    cond (counts t q) (UncountedRefused h c (h c w q).world q.time calls)
    ((h c w q ≡ done w (Refused (cond (in_form q) ClockBack OffLimits))) × UncountedRefused h c w t calls)

-- ---- The run

-- The key is one of these.
abbrev pub among : Name → List Name → Bool
among k [] = false
among k (y ∷ keys) = same k y || among k keys

abbrev pub AllAmong : List Name → List Call → Type 0
AllAmong keys = All (λ q. among q.key keys ≡ true)

-- From a fresh start: any calls at all, so long as those that count are over at most sixteen keys.
pub record FromFresh (c : Config) (w : World) (keys : List Name) (calls : List Call) : Type 0 where
  pub start : Fresh c w
  pub sixteen : length keys ≤ 16
  pub over : AllAmong keys (counted 0 calls)
  -- An option's bytes are below 256, as the types give it.
  pub bytes : AllBytes calls

-- ---- One key's pushes

-- A push: its blocks are `first` and then `rest`, and the size of block j is 16 times 2 to the power `exponent j`. Each push has its own sizes.
pub record Transfer : Type 0 where
  pub exponent : ℕ → ℕ
  pub first : Sent
  pub rest : List Sent

-- Each is as Falling.antt of demands has it: its sizes may fall.
abbrev pub AllProper : Config → List Transfer → Type 0
AllProper c [] = Unit {0}
AllProper c (p ∷ rest) = FallingBlocks c p.exponent p.first p.rest × AllProper c rest

-- The calls of these pushes on key k, one push after another. Between two pushes any time may pass.
abbrev pub calls_of : Name → List Transfer → List Call
calls_of k [] = []
calls_of k (p ∷ rest) = map (call_on k) (p.first ∷ p.rest) ++ calls_of k rest

-- The key's requests, those that count, are these pushes. (Its responses may stand anywhere.)
pub record Sends (c : Config) (k : Name) (calls : List Call) (pushes : List Transfer) : Type 0 where
  pub own : requests_on k (counted 0 calls) ≡ calls_of k pushes
  pub proper : AllProper c pushes

-- ---- What is promised

-- Of what is seen, the first n hand on these bytes (n-1 times Continue, then Handed), and what follows hands on the pushes that follow, and no more.
abbrev pub HandsAll : List Transfer → List Seen → Type 0
HandsAll [] seen = seen ≡ []
HandsAll (p ∷ rest) seen =
    HandsOn (joined p.first p.rest) (take (length (p.first ∷ p.rest)) seen) × HandsAll rest (drop (length (p.first ∷ p.rest)) seen)

-- A morning of pushes on a key, and so on each.
unfoldable pub MorningsCross : Handler → Type 0
MorningsCross h =
    (c : Config) (w : World) (keys : List Name) (calls : List Call) → FromFresh c w keys calls
    → (k : Name) (pushes : List Transfer) → Sends c k calls pushes
    → HandsAll pushes (seen_counted k h c w 0 calls)

-- One push on a key: on each of the sixteen at once, since the calls are fixed before the key.
unfoldable pub SixteenCross : Handler → Type 0
SixteenCross h =
    (c : Config) (w : World) (keys : List Name) (calls : List Call) → FromFresh c w keys calls
    → (k : Name) (p : Transfer) → Sends c k calls (p ∷ [])
    → HandsOn (joined p.first p.rest) (seen_counted k h c w 0 calls)

-- And the calls that do not count are refused, and change nothing.
unfoldable pub UncountedAreRefused : Handler → Type 0
UncountedAreRefused h =
    (c : Config) (w : World) (keys : List Name) (calls : List Call) → FromFresh c w keys calls → UncountedRefused h c w 0 calls
