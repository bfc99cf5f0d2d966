-- A response that is called and printed. Assumes nothing.
use mathlib.Core.Path.{◌≡◌, refl}
use mathlib.Core.List.{List}
use Prim.Native.Nat.{ℕ, ◌+◌, ◌≤◌}
use lib.ListN.{take}
use Rattle.pieces.specs.Memory.{Put}
use Rattle.block_state.specs.declared.Answer.{Answer}
use Rattle.block_table.specs.declared.Table.{Table}
use Rattle.call.specs.Call.{World, Call, call}
use Rattle.call.specs.Contract.{world, response_call, Meant}
use Rattle.script.specs.declared.Response.{Response}
use Rattle.script_cut.specs.Cut.{between}
use Rattle.script_print.specs.Run.{answered, response_numbers, with_table, Runs}
use Rattle.script_print.proofs.Running.{runs_done}
use Rattle.buffers.specs.Sizes.{line_room}
use Rattle.script_state.specs.declared.Step.{Step}
use Rattle.script_response.specs.Replied.{replied}

-- the call that the line says, with its fields in the buffer m
abbrev replied_call : Response → List ℕ → Call
replied_call r m =
    response_call (response_numbers r.call.time r.call.bare r.own) (take r.call.key m) (between m r.call.payload r.head)
    (between m r.call.key r.call.payload)

module _ (s z : Step) (w : World) {m m' up away : List ℕ} {t : Table} {a : Answer} (fields : List ℕ) where
  pub runs-replied : (r : Response) → Meant s.state.config w (replied_call r fields) (world t up away) a → z.state ≡ with_table s.state t
      → Put m s.at (answered s.state a (between fields r.call.key r.call.payload) up away) m' z.at → z.at ≤ s.at + line_room → z.written ≡ s.written
      → Runs s w (replied r fields) m z (world z.state.table up away) m'
  runs-replied r = runs_done {s = s} {z = z} {w = w} {q = replied r fields} (between fields r.call.key r.call.payload) (call s.state.config w (replied_call r fields)) refl refl
