-- TWO WORLDS THAT NO CALL TELLS APART. A world is a table and its two memories. Two are alike if their clocks are equal and the same entries are live in both, each with the
-- same key, touch, state and bytes. All else may differ, within the limits: an entry that is not live, a stored key's bytes past its length, a memory's bytes past what its entries
-- hold, and the figure of the bytes held, which counts entries that are in use and no longer live. Then any call answers the same in both and shows the same bytes, and leaves them
-- alike. So nobody sees it if one takes the other's place, and demand 3 holds across that. (How a promise is read is said in crates/demands/specs/Demand3.antt.)
use Rattle.std.specs.Prelude.{ℕ, Bool, true, cond, ◌≡◌, List, [], ◌∷◌, length, take}
use Rattle.pieces.specs.Memory.{piece_of}
use Rattle.config.specs.declared.Config.{Config}
use Rattle.block_state.specs.declared.Answer.{Answer}
use Rattle.block_state.specs.Held.{held_in}
use Rattle.block_state.specs.Message.{WhatBytes}
use Rattle.keys.specs.Keys.{Name, key_of}
use Rattle.entries.specs.Entries.{live}
use Rattle.block_table.specs.Table.{table_ok}
use Rattle.judge.specs.Limits.{config_ok, memories_ok}
use Rattle.answer_sources.specs.Parts.{served_head, served_chunk, sent_bytes}
use Rattle.call.specs.Call.{World, Call, Done, done, call}
use Rattle.call.specs.Contract.{Meant}
use Rattle.one_call.specs.Handler.{Handler, entry_at}
use Rattle.demands.specs.Demand3.{Seen, seen, payload_of, after, seen_on, Sent, call_on, joined, AllBytes, Blocks, Granted, HandsOn}
use Rattle.demands.specs.Falling.{FallingBlocks}
use Rattle.demands.specs.Clocks.{asks, GrantedOwn}
use Rattle.demands.specs.Compiled.{seen_of}

-- ---- When two worlds are alike

-- The world is within the limits under this configuration: nothing in it is a reason for refusal 1. (That a table has sixteen entries is given by its type.)
pub record InLimits (c : Config) (w : World) : Type 0 where
  pub config : config_ok c ≡ true
  pub memories : memories_ok c (length w.upload) (length w.response) ≡ true
  pub sixteen : length w.table.entries ≡ 16
  pub table : table_ok c w.table ≡ true

-- Entry i is live, judged at the clock that the table records.
abbrev pub live_at : Config → World → ℕ → Bool
live_at c w i = live c.lifetime w.table.clock (entry_at w i)

-- The bytes that entry i has assembled, and those that it has cached (head, then payload).
abbrev pub assembled_bytes : Config → World → ℕ → List ℕ
assembled_bytes c w i = take (entry_at w i).state.assembled.len (piece_of c.upload i w.upload)

abbrev pub cached_bytes : Config → World → ℕ → List ℕ
cached_bytes c w i = take (held_in (entry_at w i).state.cached) (piece_of c.response i w.response)

-- Entry i is the same in both.
pub record SameEntry (c : Config) (w v : World) (i : ℕ) : Type 0 where
  pub long : (entry_at w i).key.len ≡ (entry_at v i).key.len
  pub key : key_of (entry_at w i).key ≡ key_of (entry_at v i).key
  pub touched : (entry_at w i).touched ≡ (entry_at v i).touched
  pub state : (entry_at w i).state ≡ (entry_at v i).state
  pub assembled : assembled_bytes c w i ≡ assembled_bytes c v i
  pub cached : cached_bytes c w i ≡ cached_bytes c v i

pub record Alike (c : Config) (w v : World) : Type 0 where
  pub left : InLimits c w
  pub right : InLimits c v
  pub clock : w.table.clock ≡ v.table.clock
  -- The same entries are live ..
  pub lives : (i : ℕ) → live_at c w i ≡ live_at c v i
  -- .. and those are the same.
  pub same : (i : ℕ) → live_at c w i ≡ true → SameEntry c w v i

-- It is an equivalence of the worlds within the limits.
pub record Equivalence : Type 0 where
  pub itself : (c : Config) (w : World) → InLimits c w → Alike c w w
  pub back : (c : Config) (w v : World) → Alike c w v → Alike c v w
  pub on : (c : Config) (w v x : World) → Alike c w v → Alike c v x → Alike c w x

-- ---- What is promised of one call

-- All that a caller is told: what demand 3 sees (the answer, and the body that it shows), the served head, the served chunk and the bytes sent, of the message and of the memories as
-- the call left them.
pub record Told : Type 0 where
  pub seen : Seen
  pub head : List ℕ
  pub chunk : List ℕ
  pub sent : List ℕ

abbrev pub told : Call → Done → Told
told q d =
    record {
      seen = seen q d;
      head = served_head d.answer d.world.response;
      chunk = served_chunk d.answer d.world.response;
      sent = sent_bytes d.answer (payload_of q.what);
    }

-- ANY call, refused or not, tells the same of both worlds and leaves them alike. (An option's bytes are below 256, as the types give it.)
unfoldable pub SameAnswers : Handler → Type 0
SameAnswers h =
    (c : Config) (w v : World) (q : Call) → Alike c w v → WhatBytes q.what → (told q (h c w q) ≡ told q (h c v q)) × Alike c (h c w q).world (h c v q).world

-- The same of whatever the calls' contracts allow (`Meant`): w' and v' are what is left, a and b the answers.
unfoldable pub SameByContract : Type 0
SameByContract =
    (c : Config) (w v w' v' : World) (q : Call) (a b : Answer) → Alike c w v → WhatBytes q.what → Meant c w q w' a → Meant c v q v' b
    → (told q (done w' a) ≡ told q (done v' b)) × Alike c w' v'

-- ---- And of any number of calls

-- What these calls tell, one after another.
abbrev pub tells : Handler → Config → World → List Call → List Told
tells h c w [] = []
tells h c w (q ∷ calls) = told q (h c w q) ∷ tells h c (h c w q).world calls

unfoldable pub SameRuns : Handler → Type 0
SameRuns h =
    (c : Config) (w v : World) (calls : List Call) → Alike c w v → AllBytes calls → (tells h c w calls ≡ tells h c v calls) × Alike c (after h c w calls) (after h c v calls)

-- ---- Where one takes the other's place

-- A run from w on in which, as often as one likes, the world is exchanged for one that is alike, before, between and after the calls. `results` is what each call left and answered, as its
-- contract says.
pub data Across (c : Config) : World → List Call → List Done → Type 0 where
  ends : {w : World} → Across c w [] []
  called : {w : World} {q : Call} {d : Done} {rest : List Call} {results : List Done} → Meant c w q d.world d.answer → Across c d.world rest results
      → Across c w (q ∷ rest) (d ∷ results)
  exchanged : {w v : World} {rest : List Call} {results : List Done} → Alike c w v → Across c v rest results → Across c w rest results

-- What these results tell, call by call.
abbrev pub told_of : List Call → List Done → List Told
told_of [] results = []
told_of (q ∷ calls) [] = []
told_of (q ∷ calls) (d ∷ results) = told q d ∷ told_of calls results

-- THE EXCHANGES ARE NOT SEEN: such a run tells exactly what the definition's run tells that has none.
unfoldable pub NotSeen : Type 0
NotSeen = (c : Config) (w : World) (calls : List Call) (results : List Done) → AllBytes calls → Across c w calls results → told_of calls results ≡ tells call c w calls

-- ---- Demand 3 across the exchanges. What it grants is asked of the run's first world.

-- Of what is seen of these calls, what is seen of the requests on key k.
abbrev pub seen_asking : Name → List Call → List Seen → List Seen
seen_asking k [] l = []
seen_asking k (q ∷ calls) [] = []
seen_asking k (q ∷ calls) (s ∷ l) = cond (asks k q) (s ∷ seen_asking k calls l) (seen_asking k calls l)

-- In its strongest form: sizes may fall, other keys' clocks may go back, and the key's own responses may stand anywhere.
unfoldable pub Demand3Across : Type 0
Demand3Across =
    (c : Config) (w : World) (k : Name) (x : ℕ → ℕ) (first : Sent) (rest : List Sent) (later : List Call) (results : List Done)
    → FallingBlocks c x first rest → GrantedOwn c w k first rest later → Across c w (call_on k first ∷ later) results
    → HandsOn (joined first rest) (seen_asking k (call_on k first ∷ later) (seen_of (call_on k first ∷ later) results))

-- And as the mission has it.
unfoldable pub MissionAcross : Type 0
MissionAcross =
    (c : Config) (w : World) (k : Name) (x : ℕ) (first : Sent) (rest : List Sent) (later : List Call) (results : List Done)
    → Blocks c x first rest → Granted c w k first rest later → Across c w (call_on k first ∷ later) results
    → HandsOn (joined first rest) (seen_on k (seen_of (call_on k first ∷ later) results))
