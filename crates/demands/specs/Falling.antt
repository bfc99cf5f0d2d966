-- DEMAND 3 FOR A SENDER THAT GOES SMALLER. Document 02: "Extend demand 3 to uploads whose size falls on the way, each block full for its own size and its num within T-03's
-- limit." All is as in Demand3.antt but the client's blocks: `FallingBlocks` stands in place of `Blocks`. One size throughout is its special case (`OneSize`), so that demand 3
-- follows from it (`Extends`). It holds in either mode: plain mode, too, takes a block that starts where the assembled bytes end, whatever its size.
use Rattle.std.specs.Prelude.{ℕ, zero, suc, ◌+◌, ◌*◌, ◌≤◌, ◌<◌, Bool, true, ◌≡◌, List, ◌∷◌, length, Some, None}
use Rattle.block_value.specs.Value.{size_of}
use Rattle.negotiation.specs.Negotiation.{request_block}
use Rattle.config.specs.declared.Config.{Config}
use Rattle.config.specs.Mode.{nums}
use Rattle.block_state.specs.Message.{Request}
use Rattle.keys.specs.Keys.{Name}
use Rattle.call.specs.Call.{World, Call}
use Rattle.one_call.specs.Handler.{Handler}
use Rattle.demands.specs.Demand3.{run, seen_on, Sent, call_on, block, Each, Fills, joined, Prompt, Blocks, Granted, HandsOn, Demand3}

-- ---- Where the blocks start. Blocks are counted from 0, and x j is the exponent of block j: its size is 2 to the power x j + 4.

-- Block 0 starts at 0, and each other one where the one before it ended, which was full.
abbrev pub start_of : (ℕ → ℕ) → ℕ → ℕ
start_of x zero = 0
start_of x (suc j) = start_of x j + size_of (x j)

-- A block of exponent x starts at `start`: "the number is rescaled and the offset is what counts".
pub record StartsAt (c : Config) (start x : ℕ) (more : Bool) (r : Request) : Type 0 where
  -- Its num times its own size is where it starts ..
  pub num : ℕ
  pub starts : num * size_of x ≡ start
  -- .. "its num within T-03's limit": below `nums`, which is 1,048,576 in strict mode (and 4,096 in plain mode). (It follows from `reads`, an option's bytes being below 256.)
  pub limit : num < nums c.strict
  -- What its Block1 option reads as.
  pub reads : request_block c r.block1 ≡ Some (block num more x)

-- Where blocks 0 to j end, none larger than the one before it, a block of any size up to the last one's has a num that takes it there: an offset reached by larger blocks is a
-- multiple of every smaller size. And that num is within strict mode's limit wherever the largest piece, of 16,777,216 bytes, has room for a byte more.
abbrev pub AnySmallerStarts : Type 0
AnySmallerStarts =
    (x : ℕ → ℕ) (j y : ℕ) → x 0 ≤ 6 → ((i : ℕ) → i < j → x (suc i) ≤ x i) → y ≤ x j
    → (num : ℕ) × (num * size_of y ≡ start_of x (suc j)) × (start_of x (suc j) < 16777216 → num < nums true)

-- ---- The client's blocks

-- The room that is asked of a block's message. Of block 0's only that bare + 12 < T: the reply that makes a client go smaller is one to a block that did not leave room for its
-- size. Each later message "leaves room" for its block's size.
abbrev pub RoomAsked : Config → ℕ → ℕ → ℕ → Type 0
RoomAsked c zero size bare = bare + 12 < c.limit
RoomAsked c (suc j) size bare = bare + 12 + size ≤ c.limit

pub record FallingBlocks (c : Config) (x : ℕ → ℕ) (first : Sent) (rest : List Sent) : Type 0 where
  -- Each starts where the one before it ended, all marked "more" but the last, which is unmarked.
  pub numbered : Each (λ j more r. StartsAt c (start_of x j) (x j) more r) 0 first rest
  -- The sizes, from 16 to 1024 bytes, never rise. (So it is enough to say of the first that it is at most 1024.)
  pub size : x 0 ≤ 6
  pub falls : (j : ℕ) → j < length rest → x (suc j) ≤ x j
  -- "Each block full for its own size", but the last, which is no longer.
  pub full : Each (λ j more r. Fills more (length r.payload) (size_of (x j))) 0 first rest
  pub room : Each (λ j more r. RoomAsked c j (size_of (x j)) r.bare) 0 first rest
  -- As in demand 3: none carries Block2; the body fits its piece; each block comes sooner than one lifetime after the last.
  pub alone : Each (λ j more r. request_block c r.block2 ≡ None) 0 first rest
  pub fits : length (joined first rest) ≤ c.upload
  pub prompt : Prompt c.lifetime first.time rest

-- ---- What is promised

unfoldable pub Demand3Falling : Handler → Type 0
Demand3Falling h =
    (c : Config) (w : World) (k : Name) (x : ℕ → ℕ) (first : Sent) (rest : List Sent) (later : List Call) → FallingBlocks c x first rest
    → Granted c w k first rest later → HandsOn (joined first rest) (seen_on k (run h c w (call_on k first ∷ later)))

-- Blocks of one size are such blocks ..
abbrev pub OneSize : Type 0
OneSize = (c : Config) (x : ℕ) (first : Sent) (rest : List Sent) → Blocks c x first rest → FallingBlocks c (λ j. x) first rest

-- .. and so demand 3 follows, for any handler.
unfoldable pub Extends : Type 0
Extends = (h : Handler) → Demand3Falling h → Demand3 h
