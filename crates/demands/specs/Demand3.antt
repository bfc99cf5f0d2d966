-- DEMAND 3, of any handler and any run. The words in quotes are the demand's, or document 01's where that says so. The demand asks that a
-- client's blocks are handed on exactly, whatever calls for other keys stand between them. It is proved of the definition of a call in
-- proofs/Demand3.antt, and of whatever satisfies the calls' contracts in proofs/Compiled.antt.
-- To read it: `(i : ℕ) → ..` is "for every i", `(i : ℕ) × ..` is "there is an i", `×` is "and", `⊎` is "or", `cond b x y` is "if b then x else y",
-- `Unit` asks nothing, `⊥` cannot be, and `(said a).kind` is the answer's name in document 01.
use Rattle.std.specs.Prelude.{ℕ, suc, ◌+◌, ◌≤◌, ◌<◌, Bool, true, false, cond, ◌≡◌, ◌⊎◌, List, [], ◌∷◌, ◌++◌, map, length, Some, None}
use Rattle.block_value.specs.Value.{size_of}
use Rattle.block_value.specs.declared.BlockValue.{BlockValue}
use Rattle.negotiation.specs.Negotiation.{request_block}
use Rattle.config.specs.declared.Config.{Config}
use Rattle.config.specs.Mode.{nums}
use Rattle.block_state.specs.declared.Answer.{Answer}
use Rattle.block_state.specs.Message.{Request, What, request, response, WhatBytes}
use Rattle.apart.specs.Answers.{said, continue, handed}
use Rattle.keys.specs.Keys.{Name, same}
use Rattle.entries.specs.Entries.{holds, live}
use Rattle.block_table.specs.Table.{fresh_table}
use Rattle.judge.specs.Limits.{config_ok, memories_ok}
use Rattle.call.specs.Call.{World, Call, Done, within_limits}
use Rattle.answer_sources.specs.Parts.{body_of}
use Rattle.one_call.specs.Handler.{Handler, entry_at}

-- ---- A handler, and what is seen of its run

-- A handler is any function from the configuration, the table and memories, and a call, to what is left of them and the answer (crates/one_call/specs/Handler.antt).

-- Of one call: its key, its answer, and the body that is then shown, of the call's own payload and the upload memory that it left.
pub record Seen : Type 0 where
  pub key : Name
  pub answer : Answer
  pub shown : List ℕ

abbrev pub payload_of : What → List ℕ
payload_of (request r) = r.payload
payload_of (response r) = r.payload

abbrev pub seen : Call → Done → Seen
seen q d = record { key = q.key; answer = d.answer; shown = body_of d.answer (payload_of q.what) d.world.upload }

-- Document 01: "every call gets the configuration, table and memories that the call before it left".
abbrev pub run : Handler → Config → World → List Call → List Seen
run h c w [] = []
run h c w (q ∷ calls) = seen q (h c w q) ∷ run h c (h c w q).world calls

-- The table and memories that these calls leave.
abbrev pub after : Handler → Config → World → List Call → World
after h c w [] = w
after h c w (q ∷ calls) = after h c (h c w q).world calls

-- The calls on key k, in order, and what was seen of them.
abbrev pub calls_on : Name → List Call → List Call
calls_on k [] = []
calls_on k (q ∷ calls) = cond (same k q.key) (q ∷ calls_on k calls) (calls_on k calls)

abbrev pub seen_on : Name → List Seen → List Seen
seen_on k [] = []
seen_on k (s ∷ rest) = cond (same k s.key) (s ∷ seen_on k rest) (seen_on k rest)

-- ---- The client's blocks: `first`, and then those of the list `rest`

-- A block as it is sent: when, and the request that carries it.
pub record Sent : Type 0 where
  pub time : ℕ
  pub message : Request

abbrev pub call_on : Name → Sent → Call
call_on k s = record { time = s.time; key = k; what = request s.message }

-- The block value of num j, with or without more, of size 2 to the power x + 4.
abbrev pub block : ℕ → Bool → ℕ → BlockValue
block j more x = record { num = j; more = more; size_exponent = x }

-- Something holds of each block: of its place in the list, counted from j, of whether another follows, and of its request.
abbrev pub Each : (ℕ → Bool → Request → Type 0) → ℕ → Sent → List Sent → Type 0
Each P j s [] = P j false s.message
Each P j s (t ∷ rest) = P j true s.message × Each P (suc j) t rest

-- A payload of p bytes in a block of `size`: full if another block follows; else "no longer".
abbrev pub Fills : Bool → ℕ → ℕ → Type 0
Fills true p size = p ≡ size
Fills false p size = p ≤ size

-- "The joined blocks": all their payloads, one after another.
abbrev pub joined : Sent → List Sent → List ℕ
joined s [] = s.message.payload
joined s (t ∷ rest) = s.message.payload ++ joined t rest

-- The last of the client's blocks. (Demand 3 does not ask for it; other promises do.)
abbrev pub last_of : Sent → List Sent → Sent
last_of s [] = s
last_of s (t ∷ rest) = last_of t rest

-- Each block's time is less than one lifetime past the time of the one before it.
abbrev pub Prompt : ℕ → ℕ → List Sent → Type 0
Prompt lifetime last [] = Unit {0}
Prompt lifetime last (s ∷ rest) = (s.time < last + lifetime) × Prompt lifetime s.time rest

-- ---- All calls of the run, those for other keys too

-- No call's time is before that of the call before it; t is where the clock stands.
abbrev pub Rising : ℕ → List Call → Type 0
Rising t [] = Unit {0}
Rising t (q ∷ calls) = (t ≤ q.time) × Rising q.time calls

-- Something holds of every call.
abbrev pub All : (Call → Type 0) → List Call → Type 0
All P [] = Unit {0}
All P (q ∷ calls) = P q × All P calls

abbrev pub AllBytes : List Call → Type 0
AllBytes = All (λ q. WhatBytes q.what)

-- A fresh table, with a configuration and memories within the limits. (Demand 3 does not ask for it; other promises do.)
pub record Fresh (c : Config) (w : World) : Type 0 where
  pub table : w.table ≡ fresh_table
  pub config : config_ok c ≡ true
  pub memories : memories_ok c (length w.upload) (length w.response) ≡ true

-- ---- The key's entry, when its first block comes at this time

-- "A live entry": one of the sixteen is in use for the key, and live.
abbrev pub HasLive : Config → World → ℕ → Name → Type 0
HasLive c w time k =
    (i : ℕ) × (i < 16) × (holds k (entry_at w i) ≡ true) × (live c.lifetime time (entry_at w i) ≡ true)

-- "A free one to take": one of the sixteen is not in use, or no longer live. (A call first frees every entry that is not live.)
abbrev pub HasFree : Config → World → ℕ → Type 0
HasFree c w time = (i : ℕ) × (i < 16) × (live c.lifetime time (entry_at w i) ≡ false)

-- "In plain mode, nothing assembled": if the key has a live entry, its assembled length is 0. In strict mode nothing is asked.
abbrev pub NothingInPlain : Config → World → ℕ → Name → Type 0
NothingInPlain c w time k =
    c.strict ≡ false → (i : ℕ) → i < 16 → holds k (entry_at w i) ≡ true → live c.lifetime time (entry_at w i) ≡ true
    → (entry_at w i).state.assembled.len ≡ 0

-- ---- What is given

-- The client's blocks: `first` and then `rest`, each of 2 to the power x + 4 bytes.
pub record Blocks (c : Config) (x : ℕ) (first : Sent) (rest : List Sent) : Type 0 where
  -- "Its client sends blocks 0 to n-1 in order, n from 1 to 4096", and "in strict mode .. up to 1,048,576" (document 02), where n is the length of first ∷ rest: at most
  -- `nums`, which is 4,096, and in strict mode 1,048,576. (It follows from `numbered`, an option's bytes being below 256, and is stated as the demand states it.)
  pub count : length (first ∷ rest) ≤ nums c.strict
  -- "All .. marked "more" but the last, which is .. unmarked": what the Block1 option of each reads as.
  pub numbered : Each (λ j more r. request_block c r.block1 ≡ Some (block j more x)) 0 first rest
  -- "One size from 16 to 1024 bytes": 2 to the power x + 4.
  pub size : x ≤ 6
  -- "All full .. but the last, which is no longer".
  pub full : Each (λ j more r. Fills more (length r.payload) (size_of x)) 0 first rest
  -- "None carries Block2": none, or one that is unreadable and so counts as absent.
  pub alone : Each (λ j more r. request_block c r.block2 ≡ None) 0 first rest
  -- "Each message leaves room for that size". Document 01: ""leaves room" means bare + 12 + size <= T"; bare is "the length of the message encoded with
  -- its payload taken out".
  pub room : Each (λ j more r. r.bare + 12 + size_of x ≤ c.limit) 0 first rest
  -- "The body fits its piece".
  pub fits : length (joined first rest) ≤ c.upload
  -- "Each call on the key comes sooner than one lifetime after the last". (The first finds a live entry, or takes a free one: `entry`.)
  pub prompt : Prompt c.lifetime first.time rest

-- The run is block `first` and then the calls `later`: the rest of the client's blocks, and calls for other keys "between them" (or after the
-- last). Those are any requests and responses at all, with any numbers and bytes, also such as are refused or start other uploads.
-- The limits that it keeps to:
pub record Within (c : Config) (w : World) (k : Name) (first : Sent) (later : List Call) : Type 0 where
  -- Document 01: "the first table and the key's own calls keep to this document's limits": no refusal 1 for the first block, so that the
  -- configuration, both memories, the key and the table are within the limits. (The later blocks have the same key. That their lengths are
  -- within the limits is not assumed: it follows from `room` and `full` of the blocks, since T is at most 65,535.)
  pub limits : within_limits c w (call_on k first) ≡ true
  -- Granted by what a table and bytes are: a table has sixteen entries, and an option's bytes are below 256.
  pub sixteen : length w.table.entries ≡ 16
  pub bytes : AllBytes (call_on k first ∷ later)

-- All that is asked beside the client's blocks.
pub record Granted (c : Config) (w : World) (k : Name) (first : Sent) (rest : List Sent) (later : List Call) : Type 0 where
  -- "Take a key with a live entry or a free one to take ..
  pub entry : HasLive c w first.time k ⊎ HasFree c w first.time
  -- .. and, in plain mode, nothing assembled."
  pub nothing : NothingInPlain c w first.time k
  pub within : Within c w k first later
  -- "With any calls for other keys between them and none other for this one".
  pub own : calls_on k later ≡ map (call_on k) rest
  -- "The clock never goes back": the first block is not before the recorded clock, nor any call before the one that went ahead of it.
  pub clock : Rising w.table.clock (call_on k first ∷ later)

-- ---- What is promised

-- "The first n-1 are answered Continue, and the nth hands on exactly the joined blocks": these bytes, as the body that is shown.
abbrev pub HandsOn : List ℕ → List Seen → Type 0
HandsOn bytes [] = ⊥
HandsOn bytes (s ∷ []) = ((said s.answer).kind ≡ handed) × (s.shown ≡ bytes)
HandsOn bytes (s ∷ t ∷ rest) = ((said s.answer).kind ≡ continue) × HandsOn bytes (t ∷ rest)

-- "In either mode": of the two modes' differences only three come in: `nothing`, how many blocks there may be, and what an option is read as.
unfoldable pub Demand3 : Handler → Type 0
Demand3 h =
    (c : Config) (w : World) (k : Name) (x : ℕ) (first : Sent) (rest : List Sent) (later : List Call) → Blocks c x first rest → Granted c w k first rest later
    → HandsOn (joined first rest) (seen_on k (run h c w (call_on k first ∷ later)))
