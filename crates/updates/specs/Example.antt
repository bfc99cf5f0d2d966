-- ONE WORLD, ITS IMAGE BYTE BY BYTE, and what loading makes of it. Entry 2 is live; entry 0 has expired and is not yet freed.
use Rattle.std.specs.Prelude.{ℕ, true, false, ◌≡◌, List, [], ◌∷◌, ◌++◌, take, set, replicate}
use Rattle.pieces.specs.Memory.{part}
use Rattle.config.specs.declared.Config.{Config}
use Rattle.block_state.specs.declared.BlockState.{BlockState}
use Rattle.block_state.specs.State.{nothing, assembly, caching, with_assembled}
use Rattle.keys.specs.Keys.{stored}
use Rattle.entries.specs.Entries.{in_use, free}
use Rattle.block_table.specs.Table.{table_of, fresh_table}
use Rattle.call.specs.Call.{World}
use Rattle.one_call.specs.Handler.{entry_at}
use Rattle.alike.specs.Alike.{Alike}
use Rattle.image_writer.specs.Save.{saving, saved}
use Rattle.image_reader.specs.Load.{loading, loaded}
use Rattle.updates.specs.Updates.{image, moved}

abbrev pub config : Config
config = record { strict = true; limit = 64; lifetime = 100; upload = 16; response = 16 }

-- Three bytes assembled, a response of two bytes head and one byte payload cached, and a Block2 value recorded.
abbrev pub state : BlockState
state =
    record {
      assembled = assembly 3 1;
      cached = caching 2 1;
      recorded = record { given = true; more = true; exponent = 2; num = 5 };
    }

abbrev pub before : World
before =
    record {
      table = table_of 258
          (in_use (stored (7 ∷ [])) 100 (with_assembled nothing (assembly 4 0)) ∷ free ∷ in_use (stored (1 ∷ 2 ∷ [])) 250 state ∷ replicate 13 free);
      upload = replicate 32 9 ++ (65 ∷ 66 ∷ 67 ∷ []) ++ replicate 221 9;
      response = replicate 32 8 ++ (70 ∷ 71 ∷ 72 ∷ []) ++ replicate 221 8;
    }

abbrev pub bytes : List ℕ
bytes =
    -- form, number of rows, where the rows, the upload bytes and the response bytes start, total; clock
    (0 ∷ 0 ∷ 0 ∷ 1 ∷ 0 ∷ 0 ∷ 0 ∷ 1 ∷ 0 ∷ 0 ∷ 0 ∷ 32 ∷ 0 ∷ 0 ∷ 0 ∷ 128 ∷ 0 ∷ 0 ∷ 0 ∷ 131 ∷ 0 ∷ 0 ∷ 0 ∷ 134 ∷ [])
    ++ (0 ∷ 0 ∷ 0 ∷ 0 ∷ 0 ∷ 0 ∷ 1 ∷ 2 ∷ [])
    -- entry number, key length, exponent kept, cached, head length, recorded, recorded more, recorded exponent
    ++ (2 ∷ 2 ∷ 1 ∷ 1 ∷ 2 ∷ 1 ∷ 1 ∷ 2 ∷ [])
    -- recorded num, assembled length, cached payload's length, zeros, touch, key
    ++ (0 ∷ 0 ∷ 0 ∷ 5 ∷ 0 ∷ 0 ∷ 0 ∷ 3 ∷ 0 ∷ 0 ∷ 0 ∷ 1 ∷ 0 ∷ 0 ∷ 0 ∷ 0 ∷ 0 ∷ 0 ∷ 0 ∷ 0 ∷ 0 ∷ 0 ∷ 0 ∷ 250 ∷ 1 ∷ 2 ∷ [])
    ++ replicate 62 0
    -- upload bytes, response bytes
    ++ (65 ∷ 66 ∷ 67 ∷ 70 ∷ 71 ∷ 72 ∷ [])

-- A fresh table, and memories that hold something else.
abbrev pub after : World
after = record { table = fresh_table; upload = replicate 256 5; response = replicate 256 6 }

pub record Story : Type 0 where
  -- It is saved where there is room; 22 where there is not.
  pub saves : image config before ≡ bytes
  pub room : saved config before 134 ≡ saving 0 134
  pub small : saved config before 133 ≡ saving 22 134
  -- It is loaded: the live entry is there and the other is free, the figure counts what is there, and all other bytes are as they were.
  pub loads : (loaded config after bytes).refusal ≡ 0
  pub live : entry_at (loaded config after bytes).world 2 ≡ entry_at before 2
  pub gone : entry_at (loaded config after bytes).world 0 ≡ free
  pub held : before.table.held ≡ 10
  pub counted : (loaded config after bytes).world.table.held ≡ 6
  pub upload : part (loaded config after bytes).world.upload 31 5 ≡ 5 ∷ 65 ∷ 66 ∷ 67 ∷ 5 ∷ []
  pub response : part (loaded config after bytes).world.response 31 5 ≡ 6 ∷ 70 ∷ 71 ∷ 72 ∷ 6 ∷ []
  -- 12, and nothing changed: a byte less, a byte more, another offset, an entry that is not there, a flag that is neither 0 nor 1, a zero that is not, a byte behind the key, a touch
  -- after the clock.
  pub cut : loaded config after (take 133 bytes) ≡ loading 12 after
  pub longer : loaded config after (bytes ++ (0 ∷ [])) ≡ loading 12 after
  pub offset : loaded config after (set bytes 15 129) ≡ loading 12 after
  pub nowhere : loaded config after (set bytes 32 16) ≡ loading 12 after
  pub flag : loaded config after (set bytes 35 2) ≡ loading 12 after
  pub zero : loaded config after (set bytes 52 1) ≡ loading 12 after
  pub behind : loaded config after (set bytes 127 1) ≡ loading 12 after
  pub touch : loaded config after (set bytes 62 9) ≡ loading 12 after
  -- 1, and nothing changed: a table in use.
  pub used : loaded config before bytes ≡ loading 1 before

-- The two worlds differ in an entry, in the figure and in both memories, and no call tells them apart.
pub record Apart : Type 0 where
  pub entry : (entry_at before 0).used ≡ true
  pub free : (entry_at (moved config before after) 0).used ≡ false
  pub alike : Alike config before (moved config before after)
