-- A call that is done and printed. Assumes nothing.
use Rattle.std.proofs.Common.{◌≡◌, ℕ, ◌+◌, ◌≤◌, List, sym, ap, ◌∙◌}
use Rattle.pieces.specs.Memory.{Put}
use Rattle.pieces.proofs.Puts.{put_as}
use Rattle.block_state.specs.declared.Answer.{Answer}
use Rattle.block_table.specs.declared.Table.{Table}
use Rattle.call.specs.Call.{World, Done, done}
use Rattle.call.specs.Contract.{world}
use Rattle.script.specs.Line.{Said}
use Rattle.buffers.specs.Sizes.{line_room}
use Rattle.script_state.specs.declared.State.{State}
use Rattle.script_state.specs.declared.Step.{Step}
use Rattle.script_print.specs.Run.{answered, printed, world_after, text_after, state_after, Runs}

pub runs_done : {s z : Step} {w : World} {q : Said} {m m' up away : List ℕ} {t : Table} {a : Answer} (payload : List ℕ) (d : Done)
    → d.world ≡ world_after s.state.config w q → printed s.state.number d payload ≡ text_after s.state.config w s.state.number q
    → done (world t up away) a ≡ d → z.state ≡ state_after s.state q t
    → Put m s.at (answered s.state a payload up away) m' z.at → z.at ≤ s.at + line_room → z.written ≡ s.written
    → Runs s w q m z (world z.state.table up away) m'
runs_done {s} {q = q} {up = up} {away} payload d ew et e es text room written =
    let left = ap (λ (x : State). x.table) es in
    record {
      state = es ∙ ap (state_after s.state q) (sym left);
      world = ap (λ (x : Table). world x up away) left ∙ ap (λ (x : Done). x.world) e ∙ ew;
      text = put_as text (ap (λ (x : Done). printed s.state.number x payload) e ∙ et);
      room = room;
      written = written;
    }
