-- Cases at the edges of document 01's numbers, of which document 02 has moved U's largest, beside its cases 1 to 12, as rows of a table of their own.
use Rattle.std.specs.Prelude.{ℕ, Bool, true, false, cond, List, [], ◌∷◌, replicate, Ok, Err}
use Rattle.refusal.specs.declared.Refusal.TheVariants.{Jump}
use Rattle.config.specs.declared.Config.{Config}
use Rattle.block_state.specs.State.{nothing}
use Rattle.keys.specs.Keys.{key_ok, no_key}
use Rattle.entries.specs.Entries.{in_use, live}
use Rattle.judge.specs.Limits.{config_ok}
use Rattle.demands.specs.Demand3.{block}
use Rattle.cases.specs.Cases.{Row, number, splices, splice_of_block}

-- 1 for yes and 0 for no.
abbrev pub told : Bool → ℕ
told b = cond b 1 0

abbrev pub configured : Bool → ℕ → ℕ → ℕ → ℕ → Config
configured strict limit lifetime upload response = record { strict = strict; limit = limit; lifetime = lifetime; upload = upload; response = response }

abbrev pub edge_cases : List Row
edge_cases =
    -- 16 bytes assembled, size 16, num 1024: the block ends 16,384 past them, and is taken. 15 assembled: 16,385 past them, refusal 6.
    splices (splice_of_block 65536 16 (block 1024 true 0) 16) (Ok 16400)
    ∷ splices (splice_of_block 65536 15 (block 1024 true 0) 16) (Err Jump)
    -- An entry touched at 0, lifetime 120,000: live at 119,999, and not at 120,000.
    ∷ number (told (live 120000 119999 (in_use no_key 0 nothing))) 1
    ∷ number (told (live 120000 120000 (in_use no_key 0 nothing))) 0
    -- A key of 1 to 64 bytes.
    ∷ number (told (key_ok [])) 0
    ∷ number (told (key_ok (1 ∷ []))) 1
    ∷ number (told (key_ok (replicate 64 1))) 1
    ∷ number (told (key_ok (replicate 65 1))) 0
    -- The least configuration and the largest; then one number off at a time.
    ∷ number (told (config_ok (configured false 1 1 16 16))) 1
    ∷ number (told (config_ok (configured false 65535 4294967295 16777216 65536))) 1
    ∷ number (told (config_ok (configured false 0 1 16 16))) 0
    ∷ number (told (config_ok (configured false 1 0 16 16))) 0
    ∷ number (told (config_ok (configured false 1 1 15 16))) 0
    ∷ number (told (config_ok (configured false 1 1 16 15))) 0
    ∷ number (told (config_ok (configured false 65536 4294967295 16777216 65536))) 0
    ∷ number (told (config_ok (configured false 65535 4294967296 16777216 65536))) 0
    ∷ number (told (config_ok (configured false 65535 4294967295 16777217 65536))) 0
    ∷ number (told (config_ok (configured false 65535 4294967295 16777216 65537))) 0
    -- U and V have the same limits in strict mode.
    ∷ number (told (config_ok (configured true 65535 4294967295 16777216 65536))) 1
    ∷ number (told (config_ok (configured true 65535 4294967295 16777217 65536))) 0
    ∷ number (told (config_ok (configured true 65535 4294967295 16777216 65537))) 0
    ∷ number (told (config_ok (configured true 1 1 15 16))) 0
    ∷ []
