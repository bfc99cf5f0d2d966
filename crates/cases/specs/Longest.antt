-- Demand 3 admits as many blocks as the mode has nums, 4,096 in plain mode and 1,048,576 in strict mode. That is no empty promise: a client can send any such number of them.
use Rattle.std.specs.Prelude.{ℕ, ◌+◌, ◌*◌, ◌≤◌, Bool, true, false, ◌≡◌, List, ◌∷◌, map, length, replicate}
use Rattle.block_value.specs.Value.{size_of}
use Rattle.config.specs.declared.Config.{Config}
use Rattle.config.specs.Mode.{nums}
use Rattle.block_table.specs.Table.{fresh_table}
use Rattle.judge.specs.Limits.{config_ok}
use Rattle.call.specs.Call.{World}
use Rattle.demands.specs.Demand3.{Sent, call_on, joined, Blocks, Granted}
use Rattle.cases.specs.Shams.{key}

-- A fresh table, with memories of zeros that are as long as the configuration asks.
abbrev pub fresh_for : Config → World
fresh_for c = record { table = fresh_table; upload = replicate (16 * c.upload) 0; response = replicate (16 * c.response) 0 }

-- A push of n blocks of 2 to the power x + 4 bytes, all full, the last too: all that demand 3 asks for is given, from that table on and with no other call.
pub record PushOf (c : Config) (x n : ℕ) : Type 0 where
  pub first : Sent
  pub rest : List Sent
  pub many : length (first ∷ rest) ≡ n
  pub full : length (joined first rest) ≡ n * size_of x
  pub blocks : Blocks c x first rest
  pub granted : Granted c (fresh_for c) key first rest (map (call_on key) rest)

-- There is one for every configuration, size and number of blocks, if the mode has so many nums, a message of 20 bytes leaves room for the size, and the piece holds the body.
abbrev pub Longest : Type 0
Longest =
    (c : Config) (x n : ℕ) → config_ok c ≡ true → x ≤ 6 → 1 ≤ n → n ≤ nums c.strict → 20 + 12 + size_of x ≤ c.limit → n * size_of x ≤ c.upload
    → PushOf c x n

-- The longest of all, in numbers: with the largest piece and the crate's default limit and lifetime.
abbrev pub largest : Bool → Config
largest strict = record { strict = strict; limit = 1152; lifetime = 120000; upload = 16777216; response = 16 }

pub record LongestOfAll : Type 0 where
  -- In strict mode 1,048,576 blocks of 16 bytes, or 262,144 of 64: both fill the piece.
  pub strict16 : PushOf (largest true) 0 1048576
  pub strict64 : PushOf (largest true) 2 262144
  -- In plain mode 4,096 blocks of any size.
  pub plain : (x : ℕ) → x ≤ 6 → PushOf (largest false) x 4096
