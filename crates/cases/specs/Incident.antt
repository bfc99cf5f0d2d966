-- What happened, and why it does not happen in strict mode to a push as demand 3 has it, with no other call on the key between its blocks. A
-- push was cancelled and sent again with a shorter list: the old list's tail was handed on
-- behind the new one.
use Rattle.std.specs.Prelude.{ℕ, ◌+◌, ◌-◌, ◌≤◌, Bool, true, false, ◌≡◌, List, [], ◌∷◌, ◌++◌, map, length, take, replicate, Some, None}
use Rattle.pieces.specs.Memory.{part}
use Rattle.block_value.specs.Value.{size_of}
use Rattle.negotiation.specs.Negotiation.{request_block}
use Rattle.config.specs.declared.Config.{Config}
use Rattle.block_state.specs.declared.BlockState.{BlockState}
use Rattle.block_state.specs.declared.Answer.TheVariants.{Continue, Handed}
use Rattle.block_state.specs.Message.{Request}
use Rattle.block_state.specs.State.{assembly, nothing, with_assembled}
use Rattle.block_state.specs.Step.{Left, bytes_from}
use Rattle.request_step.specs.Step.{step_request}
use Rattle.keys.specs.Keys.{Name, stored}
use Rattle.entries.specs.Entries.{in_use}
use Rattle.block_table.specs.Table.{fresh_table, table_with}
use Rattle.call.specs.Call.{World, Call, call}
use Rattle.one_call.specs.Handler.{Handler}
use Rattle.demands.specs.Demand3.{run, calls_on, seen_on, Sent, call_on, block, joined, Rising, HasLive, Within, HandsOn}
use Rattle.demands.specs.Falling.{FallingBlocks}
use Rattle.cases.specs.Shams.{sent}

-- ---- Plain mode

-- A request that carries block j of exponent x, full, with no Block2, and leaves room for its size.
pub record Carries (c : Config) (x j : ℕ) (more : Bool) (r : Request) : Type 0 where
  pub numbered : request_block c r.block1 ≡ Some (block j more x)
  pub full : length r.payload ≡ size_of x
  pub alone : request_block c r.block2 ≡ None
  pub room : r.bare + 12 + size_of x ≤ c.limit

-- The state after the first of two requests, and after both.
abbrev pub once : Config → ℕ → ℕ → BlockState → List ℕ → Request → Left
once c home away s u first = step_request c home away s u first

abbrev pub twice : Config → ℕ → ℕ → BlockState → List ℕ → Request → Request → Left
twice c home away s u first last =
    step_request c home away (once c home away s u first).state (once c home away s u first).piece last

-- From any l assembled bytes, a new list of two full blocks, no longer than those: all l bytes are handed on, and what stood behind the two
-- blocks still stands there. For l = 64 and blocks of 16 bytes this is case 11: bytes 32 to 63 are old.
unfoldable pub TailKept : Type 0
TailKept =
    (c : Config) (home away : ℕ) (s : BlockState) (u : List ℕ) (x l : ℕ) (first last : Request)
    → c.strict ≡ false → x ≤ 6 → s.assembled.len ≡ l → size_of x + size_of x ≤ l → l ≤ c.upload → length u ≡ c.upload
    → Carries c x 0 true first → Carries c x 1 false last
    → ((once c home away s u first).answer ≡ Continue (block 0 false x))
    × ((twice c home away s u first last).answer ≡ Handed (block 1 false x) (bytes_from home l))
    × (take l (twice c home away s u first last).piece ≡ first.payload ++ last.payload ++ part u (size_of x + size_of x) (l - (size_of x + size_of x)))

-- The same story told by whole calls: the key's entry has 64 bytes 1 assembled, and its client sends 16 bytes 2 and 16 bytes 3.
abbrev pub lane : Name
lane = 1 ∷ []

abbrev pub shop : Bool → Config
shop strict = record { strict = strict; limit = 64; lifetime = 1000; upload = 64; response = 16 }

abbrev pub cancelled : World
cancelled =
    record {
      table = table_with 5 fresh_table.entries 0 (in_use (stored lane) 5 (with_assembled nothing (assembly 64 0)));
      upload = replicate 64 1 ++ replicate 960 0;
      response = replicate 256 0;
    }

abbrev pub new_first : Sent
new_first = sent 6 (0x08 ∷ []) (replicate 16 2)

abbrev pub new_last : Sent
new_last = sent 7 (0x10 ∷ []) (replicate 16 3)

abbrev pub new_list : List Call
new_list = call_on lane new_first ∷ call_on lane new_last ∷ []

pub record Story : Type 0 where
  -- In plain mode the old tail is handed on behind the new list ..
  pub plain : HandsOn (replicate 16 2 ++ replicate 16 3 ++ replicate 32 1) (seen_on lane (run call (shop false) cancelled new_list))
  -- .. and in strict mode the new list alone.
  pub strict : HandsOn (replicate 16 2 ++ replicate 16 3) (seen_on lane (run call (shop true) cancelled new_list))
  -- It is a push as demand 3 has it, on a live entry with bytes assembled: what `StartsAfresh` below asks can be given.
  pub live : HasLive (shop true) cancelled 6 lane
  pub blocks : FallingBlocks (shop true) (λ j. 0) new_first (new_last ∷ [])
  pub within : Within (shop true) cancelled lane new_first (call_on lane new_last ∷ [])
  pub own : calls_on lane (call_on lane new_last ∷ []) ≡ call_on lane new_last ∷ []
  pub clock : Rising cancelled.table.clock new_list

-- ---- Strict mode

-- Whatever is assembled for the key, of blocks of whatever size, a push that starts again at block 0, with no other call on the key between, hands on exactly its own blocks. Its
-- sizes may fall.
unfoldable pub StartsAfresh : Handler → Type 0
StartsAfresh h =
    (c : Config) (w : World) (k : Name) (x : ℕ → ℕ) (first : Sent) (rest : List Sent) (later : List Call)
    → c.strict ≡ true → FallingBlocks c x first rest → HasLive c w first.time k → Within c w k first later
    → calls_on k later ≡ map (call_on k) rest → Rising w.table.clock (call_on k first ∷ later)
    → HandsOn (joined first rest) (seen_on k (run h c w (call_on k first ∷ later)))
