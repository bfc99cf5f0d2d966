-- Before the first line of a script, and the count of its lines.
use Rattle.std.specs.Prelude.{ℕ, ◌+◌, ◌%◌, ◌^◌, Bool, true, false, List, [], ◌∷◌}
use Rattle.config.specs.declared.Config.{Config}
use Rattle.block_table.specs.Table.{fresh_table}
use Rattle.script_state.specs.declared.State.{State}
use Rattle.script_state.specs.declared.Step.{Step}

-- `line answer block1 block2 bytes`, and a line end.
abbrev pub header : List ℕ
header =
    108 ∷ 105 ∷ 110 ∷ 101 ∷ 32 ∷ 97 ∷ 110 ∷ 115 ∷ 119 ∷ 101 ∷ 114 ∷ 32 ∷ 98 ∷ 108 ∷ 111 ∷ 99 ∷ 107 ∷ 49 ∷ 32 ∷ 98 ∷ 108 ∷ 111 ∷ 99 ∷ 107 ∷ 50 ∷ 32 ∷ 98 ∷ 121 ∷ 116 ∷ 101 ∷ 115 ∷ 10 ∷ []

-- Output that waits at most while lines are run.
abbrev pub much : ℕ
much = 65536

-- "Plain mode, T 64, lifetime 120,000, U 2048, V 1024."
abbrev pub script_config : Config
script_config = record { strict = false; limit = 64; lifetime = 120000; upload = 2048; response = 1024 }

abbrev pub begun : State
begun = record { config = script_config; table = fresh_table; number = 0; unreadable = 0 }

-- Lines are counted in 64 bits.
abbrev pub one_more : ℕ → ℕ
one_more n = (n + 1) % 2 ^ 64

abbrev pub counted_in : Step → Step
counted_in s =
    record {
      state = record { config = s.state.config; table = s.state.table; number = one_more s.state.number; unreadable = s.state.unreadable };
      at = s.at;
      written = s.written;
    }

-- How many lines were unreadable, after one that was or was not.
abbrev pub unreadable_after : Bool → ℕ → ℕ
unreadable_after true n = one_more n
unreadable_after false n = n
