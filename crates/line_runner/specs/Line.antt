-- Any line of a script or of a replay.
use Rattle.std.specs.Prelude.{ℕ, ◌≤◌, ◌≡◌, Bool, true, false, cond, List, ltb, length, Option, Some, None}
use Rattle.config.specs.declared.Config.{Config}
use Rattle.call.specs.Call.{World}
use Rattle.script.specs.Line.{line_of}
use Rattle.answer_text.specs.Answer.{unreadable_text}
use Rattle.replay_control.specs.declared.Control.{Control}
use Rattle.replay_control.specs.declared.Control.TheVariants.{Fresh, Show}
use Rattle.replay_control.specs.Control.{control_of}
use Rattle.state_text.specs.State.{state_text}
use Rattle.script_print.specs.Run.{world_after, text_after, is_unread}
use Rattle.fresh_start.specs.Leaves.{After, fresh, world_in}
use Rattle.line_input.specs.Sizes.{longest}
use Rattle.buffers.specs.Sizes.{scratch_size, memory_size, output_size}
use Rattle.script_state.specs.declared.Step.{Step}

abbrev pub state_shown : Config → World → ℕ → After
state_shown c w n = record { config = c; world = w; text = state_text n w.table w.upload w.response; unread = false }

abbrev pub called : Config → World → ℕ → List ℕ → After
called c w n l = record { config = c; world = world_after c w (line_of l); text = text_after c w n (line_of l); unread = is_unread (line_of l) }

-- A replay's line: a fresh start, the state shown, or a line as a script has it.
abbrev pub controlled : Option Control → Config → World → ℕ → List ℕ → After
controlled (Some (Fresh d)) c w n l = fresh d n
controlled (Some Show) c w n l = state_shown c w n
controlled None c w n l = called c w n l

abbrev pub unread : Config → World → ℕ → After
unread c w n = record { config = c; world = w; text = unreadable_text n; unread = true }

-- A line that is longer than the longest is unreadable; a script of 8 KiB has none.
unfoldable pub line_run : Bool → Config → World → ℕ → List ℕ → After
line_run replay c w n l =
    cond (ltb longest (length l)) (unread c w n)
    (cond replay (controlled (control_of l) c w n l) (called c w n l))

-- ---- where the code stands, with what is lent to it

abbrev pub called_in : List ℕ → Step → List ℕ → List ℕ → After
called_in l s up away = called s.state.config (world_in s.state.config s.state.table up away) s.state.number l

abbrev pub shown_in : Step → List ℕ → List ℕ → After
shown_in s up away = state_shown s.state.config (world_in s.state.config s.state.table up away) s.state.number

abbrev pub unread_in : Step → List ℕ → List ℕ → After
unread_in s up away = unread s.state.config (world_in s.state.config s.state.table up away) s.state.number

abbrev pub controlled_in : List ℕ → Step → List ℕ → List ℕ → After
controlled_in l s up away =
    controlled (control_of l) s.state.config (world_in s.state.config s.state.table up away) s.state.number l

abbrev pub line_in : Bool → List ℕ → Step → List ℕ → List ℕ → After
line_in replay l s up away = line_run replay s.state.config (world_in s.state.config s.state.table up away) s.state.number l

-- The sizes of what is lent: two memories, a buffer for a line's fields, and the output.
pub record Lent (up away scratch out : List ℕ) : Type 0 where
  pub upload : memory_size ≤ length up
  pub response : memory_size ≤ length away
  pub fields : length scratch ≡ scratch_size
  pub output : output_size ≤ length out
