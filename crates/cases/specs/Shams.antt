-- Demand 3 is no empty promise: what it asks for can be given, in both modes, and the four sham handlers of document 01 break it, each in either mode: a handler that is a
-- sham in plain mode alone, and all that it should be in strict mode, breaks it too; and the other way round.
use Rattle.std.specs.Prelude.{ℕ, Bool, false, cond, true, ◌≡◌, List, [], ◌∷◌, map, replicate, eqb, Option, Some, None}
use Rattle.refusal.specs.declared.Refusal.TheVariants.{OffLimits}
use Rattle.block_value.specs.declared.BlockValue.{BlockValue}
use Rattle.negotiation.specs.Negotiation.{request_block}
use Rattle.config.specs.declared.Config.{Config}
use Rattle.block_state.specs.declared.Kind.{Kind}
use Rattle.block_state.specs.declared.Answer.{Answer}
use Rattle.block_state.specs.declared.Answer.TheVariants.{Continue, Handed, Pass, Refused}
use Rattle.block_state.specs.Message.{What, request, response}
use Rattle.apart.specs.Answers.{said, continue, handed, pass, first, refusal}
use Rattle.block_state.specs.State.{nothing}
use Rattle.block_state.specs.Step.{bytes_from}
use Rattle.keys.specs.Keys.{Name, stored}
use Rattle.entries.specs.Entries.{in_use}
use Rattle.block_table.specs.Table.{fresh_table, table_with}
use Rattle.call.specs.Call.{World, Call, done, call, within_limits}
use Rattle.one_call.specs.Handler.{Handler}
use Rattle.demands.specs.Demand3.{Seen, run, Sent, call_on, block, HasLive, Blocks, Granted, Demand3}

-- ---- What is given can be given

-- A fresh table, with pieces of 32 and 64 bytes.
abbrev pub config : Bool → Config
config strict = record { strict = strict; limit = 64; lifetime = 100; upload = 32; response = 64 }

abbrev pub fresh : World
fresh = record { table = fresh_table; upload = replicate 512 0; response = replicate 1024 0 }

abbrev pub key : Name
key = 1 ∷ []

abbrev pub sent : ℕ → List ℕ → List ℕ → Sent
sent time option payload = record { time = time; message = record { bare = 20; block1 = Some option; block2 = None; payload = payload } }

-- Two blocks: one full and marked "more", and a shorter one.
abbrev pub first_block : Sent
first_block = sent 5 (0x08 ∷ []) (replicate 16 65)

abbrev pub last_block : Sent
last_block = sent 9 (0x10 ∷ []) (66 ∷ 67 ∷ [])

-- Between them: another key's block, a call with no key, a response for a third key, and a block of the other key's out of order.
abbrev pub other_key : Call
other_key = call_on (2 ∷ []) (sent 6 (0x08 ∷ []) (replicate 16 90))

abbrev pub no_key : Call
no_key = call_on [] (sent 7 (0x08 ∷ []) (replicate 16 90))

abbrev pub answering : Call
answering =
    record { time = 8; key = 3 ∷ []; what = response (record { bare = 36; own = false; head = 7 ∷ []; payload = replicate 17 67 }) }

abbrev pub out_of_order : Call
out_of_order = call_on (2 ∷ []) (sent 8 (0x28 ∷ []) (replicate 16 91))

abbrev pub later : List Call
later = other_key ∷ no_key ∷ answering ∷ out_of_order ∷ call_on key last_block ∷ []

abbrev pub kinds : List Seen → List Kind
kinds l = map (λ s. (said s.answer).kind) l

abbrev pub numbers : List Seen → List ℕ
numbers l = map (λ s. (said s.answer).number) l

-- Three blocks of 1,024 bytes, the last shorter (options 0x0E, 0x1E and 0x26), on a live entry.
abbrev pub wide : Bool → Config
wide strict = record { strict = strict; limit = 1152; lifetime = 120000; upload = 3072; response = 16 }

abbrev pub used : World
used =
    record {
      table = table_with 5 fresh_table.entries 0 (in_use (stored key) 5 nothing);
      upload = replicate 49152 0;
      response = replicate 256 0;
    }

abbrev pub wide_first : Sent
wide_first = sent 6 (0x0E ∷ []) (replicate 1024 65)

abbrev pub wide_second : Sent
wide_second = sent 7 (0x1E ∷ []) (replicate 1024 66)

abbrev pub wide_last : Sent
wide_last = sent 8 (0x26 ∷ []) (67 ∷ 68 ∷ [])

pub record CanBeGiven : Type 0 where
  -- One block alone, and two blocks with those calls between them, in either mode.
  pub one : (strict : Bool) → Blocks (config strict) 0 (sent 5 [] (7 ∷ [])) [] × Granted (config strict) fresh key (sent 5 [] (7 ∷ [])) [] []
  pub two : (strict : Bool) → Blocks (config strict) 0 first_block (last_block ∷ []) × Granted (config strict) fresh key first_block (last_block ∷ []) later
  -- The calls between them are of four kinds: one is taken, one gets refusal 1, one is cached, and one gets refusal 9, or in plain mode 7.
  pub between : (strict : Bool)
      → kinds (run call (config strict) fresh (call_on key first_block ∷ later)) ≡ continue ∷ continue ∷ refusal ∷ first ∷ refusal ∷ handed ∷ []
  pub refusals : (strict : Bool)
      → numbers (run call (config strict) fresh (call_on key first_block ∷ later)) ≡ 0 ∷ 0 ∷ 1 ∷ 0 ∷ cond strict 9 7 ∷ 0 ∷ []
  -- Three blocks on a live entry.
  pub live : (strict : Bool) → HasLive (wide strict) used 6 key
  pub three : (strict : Bool)
      → Blocks (wide strict) 6 wide_first (wide_second ∷ wide_last ∷ [])
      × Granted (wide strict) used key wide_first (wide_second ∷ wide_last ∷ []) (call_on key wide_second ∷ call_on key wide_last ∷ [])

-- ---- The shams: any handler of these four kinds, in the mode that `strict` says, breaks demand 3

-- "One that refuses all (3 excludes it by Continue and Handed)."
abbrev pub RefusesAll : Bool → Handler → Type 0
RefusesAll strict h = (c : Config) (w : World) (q : Call) → c.strict ≡ strict → (said (h c w q).answer).kind ≡ refusal

-- "One that always says Pass (3 again)."
abbrev pub PassesAll : Bool → Handler → Type 0
PassesAll strict h = (c : Config) (w : World) (q : Call) → c.strict ≡ strict → (said (h c w q).answer).kind ≡ pass

-- "One that answers Continue and stores nothing (3, by the joined bytes)": whatever it answers, it leaves the upload memory as it was.
abbrev pub StoresNothing : Bool → Handler → Type 0
StoresNothing strict h = (c : Config) (w : World) (q : Call) → c.strict ≡ strict → (h c w q).world.upload ≡ w.upload

-- "One that hands on at block 0 and only nods afterwards (3, since blocks before the last must get Continue)": within the limits, and
-- whatever it does afterwards.
abbrev pub HandsAtZero : Bool → Handler → Type 0
HandsAtZero strict h =
    (c : Config) (w : World) (k : Name) (s : Sent) (more : Bool) (x : ℕ) → c.strict ≡ strict → within_limits c w (call_on k s) ≡ true
    → request_block c s.message.block1 ≡ Some (block 0 more x)
    → (said (h c w (call_on k s)).answer).kind ≡ handed

abbrev pub BreaksDemand3 : (Bool → Handler → Type 0) → Type 0
BreaksDemand3 Sham = (strict : Bool) (h : Handler) → Sham strict h → Demand3 h → ⊥

pub record Excluded : Type 0 where
  pub refuses_all : BreaksDemand3 RefusesAll
  pub passes_all : BreaksDemand3 PassesAll
  pub stores_nothing : BreaksDemand3 StoresNothing
  pub hands_at_zero : BreaksDemand3 HandsAtZero

-- There are such handlers. The third does all that it should but store an upload, and the fourth stores as it should.
abbrev pub refuser : Handler
refuser c w q = done w (Refused OffLimits)

abbrev pub passer : Handler
passer c w q = done w Pass

abbrev pub forgetter : Handler
forgetter c w q =
    done (record { table = (call c w q).world.table; upload = w.upload; response = (call c w q).world.response }) (call c w q).answer

abbrev pub nod : Option BlockValue → Answer
nod None = Pass
nod (Some b) = cond (eqb b.num 0) (Handed b (bytes_from 0 16)) (Continue b)

abbrev pub block1_of : Config → What → Option BlockValue
block1_of c (request r) = request_block c r.block1
block1_of c (response r) = None

abbrev pub nodder : Handler
nodder c w q = done (call c w q).world (nod (block1_of c q.what))

pub record Exist : Type 0 where
  pub refuses : (strict : Bool) → RefusesAll strict refuser
  pub passes : (strict : Bool) → PassesAll strict passer
  pub forgets : (strict : Bool) → StoresNothing strict forgetter
  pub nods : (strict : Bool) → HandsAtZero strict nodder
