-- The contract of a public call: its answer, the table and every byte of both memories are the definition's.
use Rattle.std.specs.Prelude.{ℕ, ◌*◌, ◌≡◌, List}
use Rattle.pieces.specs.Memory.{piece_of}
use Rattle.config.specs.declared.Config.{Config}
use Rattle.block_state.specs.declared.Answer.{Answer}
use Rattle.block_state.specs.declared.RequestNumbers.{RequestNumbers}
use Rattle.block_state.specs.declared.ResponseNumbers.{ResponseNumbers}
use Rattle.block_state.specs.Message.{request, response}
use Rattle.block_state.specs.Contract.{asking, replying}
use Rattle.request_step.specs.declared.Asked.{Asked}
use Rattle.request_step.specs.Step.{step_with}
use Rattle.keys.specs.declared.Key.{Key}
use Rattle.keys.specs.Keys.{Name, stored}
use Rattle.entries.specs.declared.Entry.{Entry}
use Rattle.block_table.specs.declared.Table.{Table}
use Rattle.places.specs.declared.Sight.{Sight}
use Rattle.judge.specs.declared.Lengths.{Lengths}
use Rattle.judge.specs.Verdict.{HasPlace}
use Rattle.call.specs.Call.{World, Call, Done, done, request_left, call}

abbrev pub world : Table → List ℕ → List ℕ → World
world t u d = record { table = t; upload = u; response = d }

-- A request and a response, as the code's parameters make them.
abbrev pub request_call : RequestNumbers → Name → List ℕ → List ℕ → List ℕ → Call
request_call q key block1 block2 payload = record { time = q.time; key = key; what = request (asking q block1 block2 payload) }

abbrev pub response_call : ResponseNumbers → Name → List ℕ → List ℕ → Call
response_call q key head payload = record { time = q.time; key = key; what = response (replying q head payload) }

-- From this table and these memories, the call leaves those and answers so.
abbrev pub Meant : Config → World → Call → World → Answer → Type 0
Meant c w q w' a = done w' a ≡ call c w q

-- ---- How the code makes a call at its place. No contract of the handler's two calls, nor of an export, cites these.

-- The table seen so has place i for a call on the key of this name, stored so.
abbrev pub PlacedAt : Config → Sight → Key → ℕ → Lengths → ℕ → Name → Table → Type 0
PlacedAt c s key time n i name t = (key ≡ stored name) × HasPlace c s time name n i t

-- A request at its place i in the swept row, where it starts from entry e, with its options read.
abbrev pub asked_at : Config → World → List Entry → ℕ → Entry → Asked → List ℕ → Done
asked_at c w row i e q payload =
    request_left c w q.time row i e.key
    (step_with c (i * c.upload) (i * c.response) e.state (piece_of c.upload i w.upload) q.bare q.block1 q.block2 payload)
