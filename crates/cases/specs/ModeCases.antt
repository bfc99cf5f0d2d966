-- Cases of document 02's "Longer lists" (T-03), as rows of a table of their own: what an option is read as and written as, and which reply is made, in either mode. T is
-- 1152 and U 64, as in the cases 1 to 7.
use Rattle.std.specs.Prelude.{ℕ, Bool, true, false, List, [], ◌∷◌, replicate, Some, None, Ok, Err}
use Rattle.refusal.specs.declared.Refusal.TheVariants.{NoBlockValue, PastTheEnd, NotNext, BadForm}
use Rattle.block_option.specs.Option.{read_of, written}
use Rattle.negotiation.specs.Negotiation.{negotiated}
use Rattle.block_state.specs.declared.Answer.{Answer}
use Rattle.block_state.specs.declared.Answer.TheVariants.{Continue, Pass, Refused}
use Rattle.request_step.specs.Step.{step_request}
use Rattle.block_state.specs.declared.BlockState.{BlockState}
use Rattle.block_state.specs.State.{caching, nothing, with_cached}
use Rattle.block_state.specs.Step.{Left}
use Rattle.demands.specs.Demand3.{block}
use Rattle.cases.specs.Cases.{Row, reads, lists, negotiates, number, answers, config, step}

-- A strict request with this Block1 option and no payload, in a message that leaves room for one byte.
abbrev pub tight : List ℕ → Answer
tight option = (step_request (config true) 0 0 nothing (replicate 64 1) (record { bare = 1139; block1 = Some option; block2 = None; payload = [] })).answer

-- A request with a Block2 option of num 4096, and nothing else; and a state in which a page of 20 bytes is kept, with no head.
abbrev pub fetching : Bool → BlockState → Left
fetching strict s = step_request (config strict) 0 0 s (replicate 64 1) (record { bare = 20; block1 = None; block2 = Some (0x01 ∷ 0x00 ∷ 0x00 ∷ []); payload = [] })

abbrev pub paged : BlockState
paged = with_cached nothing (caching 0 20)

abbrev pub mode_cases : List Row
mode_cases =
    -- Three bytes: num 4096, the first that two do not hold, and the largest with more and size 16. Strict mode reads them, and in plain mode they are unreadable.
    reads (read_of true (0x01 ∷ 0x00 ∷ 0x00 ∷ [])) (Some (block 4096 false 0))
    ∷ reads (read_of true (0xFF ∷ 0xFF ∷ 0xF8 ∷ [])) (Some (block 1048575 true 0))
    ∷ reads (read_of false (0x01 ∷ 0x00 ∷ 0x00 ∷ [])) None
    -- The reserved exponent 7 is read, too.
    ∷ reads (read_of true (0xFF ∷ 0xFF ∷ 0xFF ∷ [])) (Some (block 1048575 true 7))
    -- Leading zeros count for nothing but the length.
    ∷ reads (read_of true (0x00 ∷ 0x00 ∷ 0x18 ∷ [])) (Some (block 1 true 0))
    ∷ reads (read_of false (0x00 ∷ 0x00 ∷ 0x18 ∷ [])) None
    ∷ reads (read_of false (0x00 ∷ 0x18 ∷ [])) (Some (block 1 true 0))
    -- The largest of two bytes, in plain mode. Four bytes are unreadable in either.
    ∷ reads (read_of false (0xFF ∷ 0xF8 ∷ [])) (Some (block 4095 true 0))
    ∷ reads (read_of true (0x00 ∷ 0x00 ∷ 0x00 ∷ 0x18 ∷ [])) None
    ∷ reads (read_of false (0x00 ∷ 0x00 ∷ 0x00 ∷ 0x18 ∷ [])) None
    -- Written, num 4096: modulo 4096 in plain mode, so that no byte is left; in three bytes in strict mode. Num 1,048,576, modulo that, in strict mode.
    ∷ lists (written false (block 4096 false 0)) []
    ∷ lists (written true (block 4096 false 0)) (0x01 ∷ 0x00 ∷ 0x00 ∷ [])
    ∷ lists (written true (block 1048575 true 6)) (0xFF ∷ 0xFF ∷ 0xFE ∷ [])
    ∷ lists (written true (block 1048576 false 0)) []
    -- So num 5,000 is 904 in plain mode, and 1,053,576 is 5,000 in strict mode.
    ∷ lists (written false (block 5000 true 6)) (0x38 ∷ 0x8E ∷ [])
    ∷ lists (written true (block 1053576 true 6)) (0x01 ∷ 0x38 ∷ 0x8E ∷ [])
    -- A num of 70,000, as a strict call can have recorded it: plain mode cannot make the reply.
    ∷ negotiates (negotiated (config true) (Some (block 70000 false 0)) 20 0) (Ok (Some (block 70000 false 0)))
    ∷ negotiates (negotiated (config false) (Some (block 70000 false 0)) 20 0) (Err NoBlockValue)
    -- Refusal 5 stands before 10 and 9. T 1152, bare 1139, so m is 1, size 16, nothing assembled: num 65,535 would be answered 1,048,560, and is misplaced (9), or marked and not full
    -- (10); num 65,536 would be answered 1,048,576.
    ∷ answers (tight (0x0F ∷ 0xFF ∷ 0xF0 ∷ [])) (Refused NotNext)
    ∷ answers (tight (0x0F ∷ 0xFF ∷ 0xF8 ∷ [])) (Refused BadForm)
    ∷ answers (tight (0x10 ∷ 0x00 ∷ 0x00 ∷ [])) (Refused NoBlockValue)
    ∷ answers (tight (0x10 ∷ 0x00 ∷ 0x08 ∷ [])) (Refused NoBlockValue)
    -- A step: num 1 in three bytes is misplaced in strict mode where nothing is assembled; in plain mode the option is unreadable, and the message passes.
    ∷ answers (step true nothing (replicate 64 1) (0x00 ∷ 0x00 ∷ 0x18 ∷ []) (replicate 16 2)).answer (Refused NotNext)
    ∷ answers (step true nothing (replicate 64 1) (0x00 ∷ 0x00 ∷ 0x08 ∷ []) (replicate 16 2)).answer (Continue (block 0 false 0))
    ∷ answers (step false nothing (replicate 64 1) (0x00 ∷ 0x00 ∷ 0x08 ∷ []) (replicate 16 2)).answer Pass
    -- A Block2 of three bytes: strict mode records it, and looks for its chunk where a page is kept; for plain mode there is none.
    ∷ number (fetching true nothing).state.recorded.num 4096
    ∷ answers (fetching true paged).answer (Refused PastTheEnd)
    ∷ answers (fetching false paged).answer Pass
    ∷ []
