-- A call on the table and both memories (document 01, checks 1 to 3, "Table and clock", "The ten refusals").
use Rattle.std.specs.Prelude.{ℕ, ◌*◌, Bool, cond, not, ◌&&◌, List, length, leb, ltb}
use Rattle.refusal.specs.declared.Refusal.TheVariants.{OffLimits, ClockBack, TableFull}
use Rattle.pieces.specs.Memory.{piece_of, put_piece}
use Rattle.config.specs.declared.Config.{Config}
use Rattle.block_state.specs.declared.BlockState.{BlockState}
use Rattle.block_state.specs.declared.Answer.{Answer}
use Rattle.block_state.specs.declared.Answer.TheVariants.{Refused}
use Rattle.block_state.specs.Message.{What, request, response}
use Rattle.block_state.specs.Step.{Left}
use Rattle.request_step.specs.Step.{step_request}
use Rattle.response_step.specs.Step.{step_response}
use Rattle.keys.specs.declared.Key.{Key}
use Rattle.entries.specs.declared.Entry.{Entry}
use Rattle.block_table.specs.declared.Table.{Table}
use Rattle.keys.specs.Keys.{Name, key_ok}
use Rattle.entries.specs.Entries.{in_use, sweep}
use Rattle.block_table.specs.Table.{table_ok, table_with}
use Rattle.key_place.specs.Place.{place}
use Rattle.places.specs.Places.{opened}
use Rattle.judge.specs.Limits.{config_ok, memories_ok}

-- What every call gets "that the call before it left": the table and the two memories.
pub record World : Type 0 where
  pub table : Table
  pub upload : List ℕ
  pub response : List ℕ

pub record Call : Type 0 where
  pub time : ℕ
  pub key : Name
  pub what : What

pub record Done : Type 0 where
  pub world : World
  pub answer : Answer

abbrev pub done : World → Answer → Done
done w a = record { world = w; answer = a }

-- ---- The limits (refusal 1)

-- "Payload at most 65,535. `bare` .. at most 65,535. The head of a response .. at most 128 bytes."
unfoldable pub what_ok : What → Bool
what_ok (request r) = leb r.bare 65535 && leb (length r.payload) 65535
what_ok (response r) = leb r.bare 65535 && leb (length r.payload) 65535 && leb (length r.head) 128

unfoldable pub within_limits : Config → World → Call → Bool
within_limits c w q =
    config_ok c && memories_ok c (length w.upload) (length w.response) && key_ok q.key && what_ok q.what && table_ok c w.table

-- ---- A call

-- The table with entry i in use for its key, touched now, in this state: the touch, and what the step made of the state.
abbrev pub table_after : List Entry → ℕ → ℕ → Key → BlockState → Table
table_after row time i key s = table_with time row i (in_use key time s)

-- What a request's step leaves, put back at entry i: its piece of the upload memory. The response memory stays.
abbrev pub request_left : Config → World → ℕ → List Entry → ℕ → Key → Left → Done
request_left c w time row i key g =
    done
    (record { table = table_after row time i key g.state; upload = put_piece c.upload i g.piece w.upload; response = w.response })
    g.answer

-- What a response's step leaves: its piece of the response memory. The upload memory stays.
abbrev pub response_left : Config → World → ℕ → List Entry → ℕ → Key → Left → Done
response_left c w time row i key g =
    done
    (record { table = table_after row time i key g.state; upload = w.upload; response = put_piece c.response i g.piece w.response })
    g.answer

-- A call that has its place i in the swept row, where it starts from entry e.
unfoldable pub call_at : Config → World → ℕ → List Entry → ℕ → Entry → What → Done
call_at c w time row i e (request r) =
    request_left c w time row i e.key (step_request c (i * c.upload) (i * c.response) e.state (piece_of c.upload i w.upload) r)
call_at c w time row i e (response r) =
    response_left c w time row i e.key (step_response c e.state (piece_of c.response i w.response) r)

-- The entries once those that are not live are freed.
abbrev pub row_of : Config → World → Call → List Entry
row_of c w q = sweep c.lifetime q.time w.table.entries

-- A CALL. Checks 1, 2 and 3 leave everything; then the entry is found or made, and touched, and the call takes its step.
unfoldable pub call : Config → World → Call → Done
call c w q =
    cond (not (within_limits c w q)) (done w (Refused OffLimits))
    (cond (ltb q.time w.table.clock) (done w (Refused ClockBack))
    (cond (leb 16 (place q.key (row_of c w q))) (done w (Refused TableFull))
    (call_at c w q.time (row_of c w q) (place q.key (row_of c w q)) (opened q.key (row_of c w q)) q.what)))
