-- THE LAST BLOCK SENT TWICE. A push was handed on, as demand 3 has it; then its last block comes again, with any calls for other keys between, and any responses on
-- this one (the body's own among them), sooner than one lifetime. In strict mode a push of two blocks or more gets refusal 9 and nothing but the touch changes; one of a single block is handed
-- on again. In plain mode, for two blocks or more, WHAT IS HANDED ON IS NOT WHAT WAS SENT: zeros in place of all blocks but the last, or refusal 6 where the
-- blocks' sizes together are above 16,384.
use Rattle.refusal.specs.declared.Refusal.TheVariants.{Jump, NotNext}
use Rattle.std.specs.Prelude.{ℕ, ◌+◌, ◌≤◌, ◌<◌, true, false, ◌≡◌, List, [], ◌∷◌, ◌++◌, length, replicate}
use Rattle.config.specs.declared.Config.{Config}
use Rattle.keys.specs.Keys.{Name}
use Rattle.call.specs.Call.{World, Call}
use Rattle.one_call.specs.Handler.{Handler}
use Rattle.one_call.specs.Touch.{RefusesTo}
use Rattle.demands.specs.Demand3.{seen, after, Sent, call_on, last_of, All, HandsOn}
use Rattle.demands.specs.Falling.{start_of, FallingBlocks}
use Rattle.demands.specs.Clocks.{GrantedOwn}

-- ---- What is given

pub record SentAgain (c : Config) (w : World) (k : Name) (x : ℕ → ℕ) (first : Sent) (rest : List Sent) (later : List Call) (again : Sent) : Type 0 where
  -- A push as Clocks.antt of demands has it (its sizes may fall, and other lanes' clocks may go back): block `first`, then the calls `later`, which hold the blocks `rest`, any calls for
  -- other keys and any responses on this one, also behind the last.
  pub blocks : FallingBlocks c x first rest
  pub granted : GrantedOwn c w k first rest later
  -- The message that comes is the last block's, byte for byte ..
  pub same : again.message ≡ (last_of first rest).message
  -- .. not before any of those calls ..
  pub clock : All (λ q. q.time ≤ again.time) (call_on k first ∷ later)
  -- .. and sooner than one lifetime after the block that it repeats.
  pub soon : again.time < (last_of first rest).time + c.lifetime

-- ---- What is promised

-- The call hands on these bytes.
abbrev pub HandsTo : List ℕ → Handler → Config → World → Call → Type 0
HandsTo bytes h c w q = HandsOn bytes (seen q (h c w q) ∷ [])

pub record Twice (h : Handler) : Type 0 where
  -- Strict, two blocks or more: refusal 9, nothing but the touch.
  pub strict_many : (c : Config) (w : World) (k : Name) (x : ℕ → ℕ) (first second : Sent) (rest : List Sent) (later : List Call) (again : Sent)
      → c.strict ≡ true → SentAgain c w k x first (second ∷ rest) later again
      → RefusesTo NotNext h c (after h c w (call_on k first ∷ later)) (call_on k again)
  -- Strict, one block: handed on again, the same body.
  pub strict_one : (c : Config) (w : World) (k : Name) (x : ℕ → ℕ) (first : Sent) (later : List Call) (again : Sent)
      → c.strict ≡ true → SentAgain c w k x first [] later again
      → HandsTo first.message.payload h c (after h c w (call_on k first ∷ later)) (call_on k again)
  -- Plain, where all blocks' sizes together are at most 16,384: zero bytes up to where the last block starts, and then the block.
  pub plain_zeros : (c : Config) (w : World) (k : Name) (x : ℕ → ℕ) (first : Sent) (rest : List Sent) (later : List Call) (again : Sent)
      → c.strict ≡ false → SentAgain c w k x first rest later again → start_of x (length (first ∷ rest)) ≤ 16384
      → HandsTo (replicate (start_of x (length rest)) 0 ++ (last_of first rest).message.payload) h c (after h c w (call_on k first ∷ later)) (call_on k again)
  -- Plain, more than that: refusal 6, nothing but the touch.
  pub plain_far : (c : Config) (w : World) (k : Name) (x : ℕ → ℕ) (first : Sent) (rest : List Sent) (later : List Call) (again : Sent)
      → c.strict ≡ false → SentAgain c w k x first rest later again → 16384 < start_of x (length (first ∷ rest))
      → RefusesTo Jump h c (after h c w (call_on k first ∷ later)) (call_on k again)
