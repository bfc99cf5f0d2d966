-- Cases of strict mode, beside document 01's cases 1 to 12, as rows of a table of their own (T 1152, U 64, bare 20). The block value of an answer is the reply's: its "more" is
-- as negotiated, not as sent.
use Rattle.std.specs.Prelude.{true, false, List, [], ◌∷◌, replicate}
use Rattle.refusal.specs.declared.Refusal.TheVariants.{NotNext, BadForm}
use Rattle.block_state.specs.declared.BlockState.{BlockState}
use Rattle.block_state.specs.declared.Answer.TheVariants.{Continue, Handed, Refused}
use Rattle.apart.specs.Answers.{said}
use Rattle.block_state.specs.State.{assembly, nothing, with_assembled}
use Rattle.block_state.specs.Step.{bytes_from}
use Rattle.demands.specs.Demand3.{block}
use Rattle.cases.specs.Cases.{Row, answers, number, step}

-- 32 bytes are assembled, and the kept exponent is 0 (size 16), or 1 (size 32).
abbrev pub kept : BlockState
kept = with_assembled nothing (assembly 32 0)

abbrev pub kept_larger : BlockState
kept_larger = with_assembled nothing (assembly 32 1)

abbrev pub strict_cases : List Row
strict_cases =
    -- L 32 kept at size 16, num 1 of size 32: it starts at L, but its exponent rises. Refusal 9; plain mode takes it.
    answers (step true kept (replicate 64 1) (0x19 ∷ []) (replicate 32 2)).answer (Refused NotNext)
    ∷ answers (step false kept (replicate 64 1) (0x19 ∷ []) (replicate 32 2)).answer (Continue (block 1 false 1))
    -- Nor is it taken as the last block.
    ∷ answers (step true kept (replicate 64 1) (0x11 ∷ []) (replicate 4 2)).answer (Refused NotNext)
    -- Num 1 of size 16: an earlier offset. Refusal 9; plain mode takes it.
    ∷ answers (step true kept (replicate 64 1) (0x18 ∷ []) (replicate 16 2)).answer (Refused NotNext)
    ∷ answers (step false kept (replicate 64 1) (0x18 ∷ []) (replicate 16 2)).answer (Continue (block 1 false 0))
    -- Num 2 of size 16: the next. Taken.
    ∷ answers (step true kept (replicate 64 1) (0x28 ∷ []) (replicate 16 2)).answer (Continue (block 2 false 0))
    -- L 32 kept at size 32, num 2 of size 16: it starts at L, and its exponent falls. Taken, and its exponent is the one kept then.
    ∷ answers (step true kept_larger (replicate 64 1) (0x28 ∷ []) (replicate 16 2)).answer (Continue (block 2 false 0))
    ∷ number (step true kept_larger (replicate 64 1) (0x28 ∷ []) (replicate 16 2)).state.assembled.exponent 0
    -- Num 1 of size 16, which follows by its number alone: it falls, but starts at 16. Refusal 9.
    ∷ answers (step true kept_larger (replicate 64 1) (0x18 ∷ []) (replicate 16 2)).answer (Refused NotNext)
    -- The last block may be of a smaller size, and may be empty.
    ∷ answers (step true kept_larger (replicate 64 1) (0x20 ∷ []) (replicate 4 2)).answer (Handed (block 2 false 0) (bytes_from 0 36))
    ∷ answers (step true kept_larger (replicate 64 1) (0x20 ∷ []) []).answer (Handed (block 2 false 0) (bytes_from 0 32))
    -- Num 0 starts afresh, with a larger size than the kept one or a smaller.
    ∷ answers (step true kept (replicate 64 1) (0x09 ∷ []) (replicate 32 2)).answer (Continue (block 0 false 1))
    ∷ number (step true kept (replicate 64 1) (0x09 ∷ []) (replicate 32 2)).state.assembled.exponent 1
    ∷ answers (step true kept_larger (replicate 64 1) [] (replicate 4 2)).answer (Handed (block 0 false 0) (bytes_from 0 4))
    -- Exponent 7 with a short unmarked payload, num 0. Refusal 10; plain mode takes it.
    ∷ answers (step true nothing (replicate 64 1) (0x07 ∷ []) (replicate 4 2)).answer (Refused BadForm)
    ∷ answers (step false nothing (replicate 64 1) (0x07 ∷ []) (replicate 4 2)).answer (Handed (block 0 false 6) (bytes_from 0 4))
    -- A payload longer than its size; one that is marked and short. Refusal 10.
    ∷ answers (step true nothing (replicate 64 1) [] (replicate 17 2)).answer (Refused BadForm)
    ∷ answers (step true nothing (replicate 64 1) (0x08 ∷ []) (replicate 15 2)).answer (Refused BadForm)
    -- Both faults at once: nothing assembled, num 1, marked and short. Refusal 10, not 9.
    ∷ answers (step true nothing (replicate 64 1) (0x18 ∷ []) (replicate 15 2)).answer (Refused BadForm)
    -- "In either mode that of the last block taken": plain mode, too, keeps the exponent of a block of 32 bytes, of one that rises and of one that falls.
    ∷ number (step false nothing (replicate 64 1) (0x09 ∷ []) (replicate 32 2)).state.assembled.exponent 1
    ∷ number (step false kept (replicate 64 1) (0x19 ∷ []) (replicate 32 2)).state.assembled.exponent 1
    ∷ number (step false kept_larger (replicate 64 1) (0x28 ∷ []) (replicate 16 2)).state.assembled.exponent 0
    -- Refusal 9 is 4.08, and 10 is 4.00.
    ∷ number (said (Refused NotNext)).code 136
    ∷ number (said (Refused BadForm)).code 128
    ∷ []
