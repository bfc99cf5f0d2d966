-- What a line of a script does: the call that it says, on the table and both memories, and the line that is printed.
use Rattle.std.specs.Prelude.{◌≡◌, ℕ, ◌+◌, ◌≤◌, Bool, true, false, List}
use Rattle.config.specs.declared.Config.{Config}
use Rattle.block_state.specs.declared.RequestNumbers.{RequestNumbers}
use Rattle.block_state.specs.declared.ResponseNumbers.{ResponseNumbers}
use Rattle.block_state.specs.declared.Answer.{Answer}
use Rattle.block_table.specs.declared.Table.{Table}
use Rattle.call.specs.Call.{World, Done, call}
use Rattle.call.specs.Contract.{world, request_call, response_call}
use Rattle.script.specs.Line.{Said, request, response, unreadable}
use Rattle.answer_text.specs.Answer.{answer_text, unreadable_text}
use Rattle.pieces.specs.Memory.{Put}
use Rattle.answer_text.specs.Shown.{shown_of}
use Rattle.buffers.specs.Sizes.{line_room}
use Rattle.script_state.specs.declared.State.{State}
use Rattle.script_state.specs.declared.Step.{Step}
use Rattle.script_state.specs.Start.{unreadable_after}

-- What is printed of an answer: parts of the payload and of the memories as the call left them.
abbrev pub answered : State → Answer → List ℕ → List ℕ → List ℕ → List ℕ
answered s a payload up away = answer_text s.number a (shown_of a payload up away)

abbrev pub printed : ℕ → Done → List ℕ → List ℕ
printed n d payload = answer_text n d.answer (shown_of d.answer payload d.world.upload d.world.response)

-- The numbers of a call, as a line says them.
abbrev pub request_numbers : ℕ → ℕ → Bool → Bool → RequestNumbers
request_numbers time bare given1 given2 = record { time = time; bare = bare; given1 = given1; given2 = given2 }

abbrev pub response_numbers : ℕ → ℕ → Bool → ResponseNumbers
response_numbers time bare own = record { time = time; bare = bare; own = own }

-- A line that cannot be read changes nothing.
abbrev pub world_after : Config → World → Said → World
world_after c w (request t k b g1 o1 g2 o2 p) = (call c w (request_call (request_numbers t b g1 g2) k o1 o2 p)).world
world_after c w (response t k b own h p) = (call c w (response_call (response_numbers t b own) k h p)).world
world_after c w unreadable = w

abbrev pub text_after : Config → World → ℕ → Said → List ℕ
text_after c w n (request t k b g1 o1 g2 o2 p) = printed n (call c w (request_call (request_numbers t b g1 g2) k o1 o2 p)) p
text_after c w n (response t k b own h p) = printed n (call c w (response_call (response_numbers t b own) k h p)) p
text_after c w n unreadable = unreadable_text n

abbrev pub is_unread : Said → Bool
is_unread (request t k b g1 o1 g2 o2 p) = false
is_unread (response t k b own h p) = false
is_unread unreadable = true

-- The state with another table; and after a line that says q.
abbrev pub with_table : State → Table → State
with_table s t = record { config = s.config; table = t; number = s.number; unreadable = s.unreadable }

abbrev pub state_after : State → Said → Table → State
state_after s q t = record { config = s.config; table = t; number = s.number; unreadable = unreadable_after (is_unread q) s.unreadable }

-- A line that says q, run on the world w, leaves w' and z, and its text in the output m.
pub record Runs (s : Step) (w : World) (q : Said) (m : List ℕ) (z : Step) (w' : World) (m' : List ℕ) : Type 0 where
  pub state : z.state ≡ state_after s.state q w'.table
  pub world : w' ≡ world_after s.state.config w q
  pub text : Put m s.at (text_after s.state.config w s.state.number q) m' z.at
  pub room : z.at ≤ s.at + line_room
  pub written : z.written ≡ s.written

-- The same with the memories that are lent.
abbrev pub Ran : Step → List ℕ → List ℕ → Said → List ℕ → Step → List ℕ → List ℕ → List ℕ → Type 0
Ran s up away q m z up' away' m' = Runs s (world s.state.table up away) q m z (world z.state.table up' away') m'
