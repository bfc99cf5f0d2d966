-- The figure of the bytes held: call by call, as one row, and off the limits. Plain mode, T 64, lifetime 100, U and V 64, from a fresh table on.
use Rattle.std.specs.Prelude.{ℕ, false, List, [], ◌∷◌, replicate, Option, Some, None}
use Rattle.config.specs.declared.Config.{Config}
use Rattle.block_state.specs.Message.{request, response}
use Rattle.block_table.specs.declared.Table.{Table}
use Rattle.block_table.specs.Table.{table_ok, fresh_table}
use Rattle.call.specs.Call.{World, Call, call}
use Rattle.cases.specs.Cases.{Row, lists, number}
use Rattle.cases.specs.EdgeCases.{told}

abbrev pub brief : Config
brief = record { strict = false; limit = 64; lifetime = 100; upload = 64; response = 64 }

abbrev pub empty : World
empty = record { table = fresh_table; upload = replicate 1024 0; response = replicate 1024 0 }

-- A request by this key with these options and a payload of n bytes, and a response under a head.
abbrev pub asks : ℕ → ℕ → ℕ → Option (List ℕ) → Option (List ℕ) → ℕ → Call
asks time key bare block1 block2 n = record { time = time; key = key ∷ []; what = request (record { bare = bare; block1 = block1; block2 = block2; payload = replicate n 1 }) }

abbrev pub sends : ℕ → ℕ → ℕ → ℕ → Call
sends time key head n = record { time = time; key = key ∷ []; what = response (record { bare = 30; own = false; head = replicate head 1; payload = replicate n 1 }) }

-- The figure that each call leaves.
abbrev pub figures : Config → World → List Call → List ℕ
figures c w [] = []
figures c w (q ∷ rest) = (call c w q).world.table.held ∷ figures c (call c w q).world rest

-- A table that claims to hold n bytes, though it holds 16.
abbrev pub claims : ℕ → Table
claims n = let t = (call brief empty (asks 0 1 20 (Some (0x08 ∷ [])) None 16)).world.table in record { clock = t.clock; held = n; entries = t.entries }

abbrev pub held_cases : List Row
held_cases =
    lists
    (figures brief empty (
    -- Block 0 is taken: 16 bytes. Key 2: 40 bytes are cached under a head of 2; then 33 under a head of 1 in their place; the last chunk is served, and they are dropped.
    asks 0 1 20 (Some (0x08 ∷ [])) None 16 ∷ sends 1 2 2 40 ∷ sends 2 2 1 33 ∷ asks 3 2 20 None (Some (0x20 ∷ [])) 0
    -- The last block hands 20 bytes on. Another block 0.
    ∷ asks 4 1 20 (Some (0x10 ∷ [])) None 4 ∷ asks 5 1 20 (Some (0x08 ∷ [])) None 16
    -- Key 3: 40 bytes are cached, and 16 are taken; then the body is complete, and the chunk asked for is past the end (refusal 8).
    ∷ sends 6 3 0 40 ∷ asks 7 3 20 (Some (0x08 ∷ [])) None 16 ∷ asks 8 3 20 (Some (0x10 ∷ [])) (Some (0x90 ∷ [])) 4
    -- A call before the clock (refusal 2). At 105 keys 1 and 2 are expired, and a call that gets refusal 4 frees them; at 300 key 3 is expired too, and key 4's request frees it.
    ∷ asks 7 1 20 None None 0 ∷ asks 105 3 60 None None 0 ∷ asks 300 4 20 None None 0
    -- Three blocks are taken; then block 1 again with 4 bytes, so that 36 are left (case 9).
    ∷ asks 301 5 20 (Some (0x08 ∷ [])) None 16 ∷ asks 302 5 20 (Some (0x18 ∷ [])) None 16 ∷ asks 303 5 20 (Some (0x28 ∷ [])) None 16
    ∷ asks 304 5 20 (Some (0x18 ∷ [])) None 4
    ∷ []))
    (16 ∷ 58 ∷ 50 ∷ 16 ∷ 0 ∷ 16 ∷ 56 ∷ 72 ∷ 56 ∷ 56 ∷ 40 ∷ 0 ∷ 16 ∷ 32 ∷ 48 ∷ 36 ∷ [])
    -- A table with another figure is off the limits.
    ∷ number (told (table_ok brief (claims 16))) 1
    ∷ number (told (table_ok brief (claims 15))) 0
    ∷ number (told (table_ok brief (claims 17))) 0
    ∷ []
