-- Demand 3 for a sender that goes smaller is no empty promise: what it and the other statements about falling sizes ask for can be given, with a size that falls twice; the sham
-- handlers of document 01 break it; and so does a handler that takes one size only, as strict mode did before.
use Rattle.std.specs.Prelude.{ℕ, zero, suc, ◌+◌, ◌<◌, Bool, true, false, cond, not, ◌&&◌, ◌≡◌, List, [], ◌∷◌, length, replicate, ltb, eqb, Option, Some, None}
use Rattle.refusal.specs.declared.Refusal.TheVariants.{NotNext}
use Rattle.block_value.specs.declared.BlockValue.{BlockValue}
use Rattle.block_value.specs.Value.{size_of, block_start}
use Rattle.config.specs.declared.Config.{Config}
use Rattle.block_state.specs.declared.Assembled.{Assembled}
use Rattle.block_state.specs.declared.Answer.TheVariants.{Refused}
use Rattle.apart.specs.Answers.{said, continue, handed, first, refusal}
use Rattle.block_state.specs.State.{assembly, nothing, with_assembled}
use Rattle.keys.specs.Keys.{stored}
use Rattle.entries.specs.Entries.{in_use}
use Rattle.block_table.specs.Table.{fresh_table, table_with}
use Rattle.call.specs.Call.{World, Call, done, call}
use Rattle.one_call.specs.Handler.{Handler}
use Rattle.one_call.specs.Touch.{touched}
use Rattle.one_call.specs.Strict.{took_block, assembled_for, BadlyFormed, Misplaced, PassesFive, Takable}
use Rattle.demands.specs.Demand3.{run, Sent, call_on, block, HasLive, Within, Granted}
use Rattle.demands.specs.Falling.{FallingBlocks, Demand3Falling}
use Rattle.many_calls.specs.Twice.{SentAgain}
use Rattle.cases.specs.Shams.{key, sent, other_key, no_key, answering, out_of_order, kinds, numbers, BreaksDemand3, block1_of}

-- ---- A push whose size falls twice: 64 bytes, 32, and then 2 in a block of 16

-- A message leaves room for 32 bytes, so that block 0 does not leave room for its size. (As 1024, where there is room for 512.)
abbrev pub narrow : Bool → Config
narrow strict = record { strict = strict; limit = 64; lifetime = 100; upload = 112; response = 64 }

abbrev pub lent : World
lent = record { table = fresh_table; upload = replicate 1792 0; response = replicate 1024 0 }

abbrev pub falling : ℕ → ℕ
falling zero = 2
falling (suc zero) = 1
falling (suc (suc j)) = 0

-- Num 0 of 64 bytes; num 2 of 32, which starts at 64; num 6 of 16, which starts at 96. Each is sent at this time, and its payload is this byte over and over.
abbrev pub first64 : ℕ → ℕ → Sent
first64 time b = sent time (0x0A ∷ []) (replicate 64 b)

abbrev pub next32 : ℕ → ℕ → Sent
next32 time b = sent time (0x29 ∷ []) (replicate 32 b)

abbrev pub last16 : ℕ → ℕ → Sent
last16 time b = sent time (0x60 ∷ []) (b ∷ b ∷ [])

abbrev pub rest : List Sent
rest = next32 8 66 ∷ last16 9 67 ∷ []

-- Between the first two: another key's block, a call with no key, a response for a third key. Between the last two: a block of the other key's out of order.
abbrev pub later : List Call
later = other_key ∷ no_key ∷ answering ∷ call_on key (next32 8 66) ∷ out_of_order ∷ call_on key (last16 9 67) ∷ []

-- The same, where 64 bytes of an old list are assembled for the key, in blocks of 16.
abbrev pub over_old : World
over_old =
    record {
      table = table_with 5 fresh_table.entries 0 (in_use (stored key) 5 (with_assembled nothing (assembly 64 0)));
      upload = replicate 1792 1;
      response = replicate 1024 0;
    }

pub record CanFall : Type 0 where
  pub blocks : (strict : Bool) → FallingBlocks (narrow strict) falling (first64 5 65) rest
  pub granted : (strict : Bool) → Granted (narrow strict) lent key (first64 5 65) rest later
  -- Block 0 does not leave room for its size, and the reply asks for blocks of 32 bytes.
  pub no_room : (strict : Bool) → (narrow strict).limit < (first64 5 65).message.bare + 12 + size_of 2
  pub reply : (strict : Bool) → (said (call (narrow strict) lent (call_on key (first64 5 65))).answer).block1 ≡ Some (block 0 true 1)
  -- The calls between are taken, refused with 1, cached, and refused with 9 (taken in plain mode).
  pub between : (strict : Bool)
      → kinds (run call (narrow strict) lent (call_on key (first64 5 65) ∷ later))
      ≡ continue ∷ continue ∷ refusal ∷ first ∷ continue ∷ cond strict refusal continue ∷ handed ∷ []
  pub refusals : (strict : Bool)
      → numbers (run call (narrow strict) lent (call_on key (first64 5 65) ∷ later)) ≡ 0 ∷ 0 ∷ 1 ∷ 0 ∷ 0 ∷ cond strict 9 0 ∷ 0 ∷ []
  -- The last block can be sent twice.
  pub twice : (strict : Bool) → SentAgain (narrow strict) lent key falling (first64 5 65) rest later (last16 10 67)
  -- The push can come over an old list of smaller blocks: what `StartsAfresh` asks beside the blocks. (Its calls' order and times are those of `granted`.)
  pub live : HasLive (narrow true) over_old 5 key
  pub within : Within (narrow true) over_old key (first64 5 65) later

-- ---- Strict mode says yes to the second block and the last, and no to one that rises at the assembled length

abbrev pub after_these : List Sent → World
after_these [] = lent
after_these (s ∷ earlier) = (call (narrow true) (after_these earlier) (call_on key s)).world

-- Num 1 of 32 bytes, behind two blocks of 16.
abbrev pub risen : Sent
risen = sent 9 (0x19 ∷ []) (replicate 32 66)

abbrev pub behind16 : World
behind16 = after_these (sent 6 (0x18 ∷ []) (replicate 16 65) ∷ sent 5 (0x08 ∷ []) (replicate 16 65) ∷ [])

pub record SaidYesAndNo : Type 0 where
  pub second : Takable (narrow true) (after_these (first64 5 65 ∷ [])) (call_on key (next32 8 66)) (next32 8 66).message (block 2 true 1)
  pub last : Takable (narrow true) (after_these (next32 8 66 ∷ first64 5 65 ∷ [])) (call_on key (last16 9 67)) (last16 9 67).message (block 6 false 0)
  pub five : PassesFive (narrow true) behind16 (call_on key risen) risen.message (block 1 true 1)
  pub well : BadlyFormed (block 1 true 1) (length risen.message.payload) → ⊥
  pub start : block_start (block 1 true 1) ≡ (assembled_for (narrow true) behind16 (call_on key risen)).len
  pub rises : Misplaced (assembled_for (narrow true) behind16 (call_on key risen)) (block 1 true 1)

-- ---- The shams

abbrev pub BreaksFalling : (Bool → Handler → Type 0) → Type 0
BreaksFalling Sham = (strict : Bool) (h : Handler) → Sham strict h → Demand3Falling h → ⊥

-- A block that is smaller than the last one taken, and not block 0.
abbrev pub smaller : Option BlockValue → Assembled → Bool
smaller None a = false
smaller (Some b) a = not (eqb b.num 0) && ltb b.size_exponent a.exponent

-- All that it should be, but that in strict mode it refuses such a block where it should be taken.
abbrev pub one_size_only : Handler
one_size_only c w q =
    cond (c.strict && smaller (block1_of c q.what) (assembled_for c w q) && took_block (call c w q).answer) (done (touched c w q) (Refused NotNext)) (call c w q)

pub record FallingExcluded : Type 1 where
  -- What breaks demand 3 breaks it.
  pub shams : (Sham : Bool → Handler → Type 0) → BreaksDemand3 Sham → BreaksFalling Sham
  pub one_size : Demand3Falling one_size_only → ⊥
