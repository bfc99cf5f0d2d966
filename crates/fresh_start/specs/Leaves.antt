-- What a line leaves of the configuration, the table and the lent memories; and a fresh start.
use Rattle.std.specs.Prelude.{ℕ, ◌+◌, ◌≤◌, ◌≡◌, Bool, false, List, take, drop, replicate}
use Rattle.config.specs.declared.Config.{Config}
use Rattle.block_table.specs.declared.Table.{Table}
use Rattle.block_table.specs.Table.{fresh_table}
use Rattle.call.specs.Call.{World}
use Rattle.call.specs.Contract.{world}
use Rattle.replay_control.specs.Control.{config_text}
use Rattle.pieces.specs.Memory.{Put}
use Rattle.buffers.specs.Sizes.{memory_of, line_room}
use Rattle.script_state.specs.declared.Step.{Step}
use Rattle.script_state.specs.Start.{unreadable_after}

-- What a line leaves, what is printed of it, and whether it was unreadable.
pub record After : Type 0 where
  pub config : Config
  pub world : World
  pub text : List ℕ
  pub unread : Bool

-- An empty table and memories of zeros, each of sixteen pieces as long as the configuration says, or of the longest.
unfoldable pub fresh_world : Config → World
fresh_world c = world fresh_table (replicate (memory_of c.upload) 0) (replicate (memory_of c.response) 0)

abbrev pub fresh : Config → ℕ → After
fresh c n = record { config = c; world = fresh_world c; text = config_text n; unread = false }

abbrev pub fresh_in : Config → Step → List ℕ → List ℕ → After
fresh_in c s up away = fresh c s.state.number

-- ---- what the code lends: of each memory, as much as the configuration has

abbrev pub world_in : Config → Table → List ℕ → List ℕ → World
world_in c t up away = world t (take (memory_of c.upload) up) (take (memory_of c.response) away)

-- What a line leaves of what is lent to it: its text in the output, and past what its configuration has, each memory as it was.
pub record Leaves (a : After) (s : Step) (up away m : List ℕ) (z : Step) (up' away' m' : List ℕ) : Type 0 where
  pub config : z.state.config ≡ a.config
  pub world : world_in z.state.config z.state.table up' away' ≡ a.world
  pub number : z.state.number ≡ s.state.number
  pub unreadable : z.state.unreadable ≡ unreadable_after a.unread s.state.unreadable
  pub upload : drop (memory_of z.state.config.upload) up' ≡ drop (memory_of z.state.config.upload) up
  pub response : drop (memory_of z.state.config.response) away' ≡ drop (memory_of z.state.config.response) away
  pub text : Put m s.at a.text m' z.at
  pub room : z.at ≤ s.at + line_room
  pub written : z.written ≡ s.written

abbrev pub Left : (Step → List ℕ → List ℕ → After) → Step → List ℕ → List ℕ → List ℕ → Step → List ℕ → List ℕ → List ℕ → Type 0
Left f s up away m z up' away' m' = Leaves (f s up away) s up away m z up' away' m'
