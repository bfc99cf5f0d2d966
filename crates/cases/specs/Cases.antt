-- Document 01, "Examples on each side", cases 1 to 12, as one table over the definitions: each row says what is computed and what the document says.
use Rattle.std.specs.Prelude.{ℕ, Bool, true, false, ◌≡◌, List, [], ◌∷◌, ◌++◌, take, replicate, Option, Some, None, Result, Ok, Err}
use Rattle.refusal.specs.declared.Refusal.{Refusal}
use Rattle.refusal.specs.declared.Refusal.TheVariants.{TooLargeToEncode, NoBlockValue, Jump, PastTheEnd, NotNext}
use Rattle.block_value.specs.Value.{made, size_of, block_size, block_start}
use Rattle.block_option.specs.Option.{read_of}
use Rattle.block_value.specs.declared.BlockValue.{BlockValue}
use Rattle.negotiation.specs.Negotiation.{negotiated, within}
use Rattle.chunks.specs.Chunk.{chunk_of, bytes_under}
use Rattle.chunks.specs.declared.Chunk.{Chunk}
use Rattle.splicing.specs.Splice.{splice_of, spliced}
use Rattle.config.specs.declared.Config.{Config}
use Rattle.block_state.specs.declared.BlockState.{BlockState}
use Rattle.block_state.specs.declared.Answer.{Answer}
use Rattle.block_state.specs.declared.Answer.TheVariants as answer
use Rattle.block_state.specs.Message.{Request}
use Rattle.block_state.specs.State.{assembly, nothing, with_assembled}
use Rattle.block_state.specs.Step.{Left, bytes_from}
use Rattle.request_step.specs.Step.{step_request}
use Rattle.demands.specs.Demand3.{block}

pub data Row : Type 0 where
  makes : Option BlockValue → Option BlockValue → Row
  reads : Option BlockValue → Option BlockValue → Row
  negotiates : Result (Option BlockValue) Refusal → Result (Option BlockValue) Refusal → Row
  splices : Result ℕ Refusal → Result ℕ Refusal → Row
  chunks : Result Chunk Refusal → Result Chunk Refusal → Row
  lists : List ℕ → List ℕ → Row
  number : ℕ → ℕ → Row
  answers : Answer → Answer → Row

abbrev pub Says : Row → Type 0
Says (makes a b) = a ≡ b
Says (reads a b) = a ≡ b
Says (negotiates a b) = a ≡ b
Says (splices a b) = a ≡ b
Says (chunks a b) = a ≡ b
Says (lists a b) = a ≡ b
Says (number a b) = a ≡ b
Says (answers a b) = a ≡ b

abbrev pub AllSay : List Row → Type 0
AllSay [] = Unit {0}
AllSay (r ∷ rest) = Says r × AllSay rest

-- The splice's answer to block b, where l bytes are assembled in a piece of u, for a payload of p.
abbrev pub splice_of_block : ℕ → ℕ → BlockValue → ℕ → Result ℕ Refusal
splice_of_block u l b p = splice_of u l (block_start b) (block_size b) p

-- A request's step in either mode, T 1152 and U 64, on a piece that begins at 0: its Block1 option is these bytes, and it has no Block2.
abbrev pub config : Bool → Config
config strict = record { strict = strict; limit = 1152; lifetime = 120000; upload = 64; response = 64 }

abbrev pub asked : List ℕ → List ℕ → Request
asked option payload = record { bare = 20; block1 = Some option; block2 = None; payload = payload }

abbrev pub step : Bool → BlockState → List ℕ → List ℕ → List ℕ → Left
step strict s piece option payload = step_request (config strict) 0 0 s piece (asked option payload)

-- Case 11: 64 bytes are assembled, all of them 1, and the new blocks are 16 bytes 2 and 16 bytes 3.
abbrev pub old : BlockState
old = with_assembled nothing (assembly 64 0)

abbrev pub after_first : Left
after_first = step false old (replicate 64 1) (0x08 ∷ []) (replicate 16 2)

abbrev pub after_last : Left
after_last = step false after_first.state after_first.piece (0x10 ∷ []) (replicate 16 3)

-- Cases 1 to 7 in the mode that `strict` says, under this configuration where it counts; case 3 in each mode.
abbrev pub cases : Bool → List Row
cases strict =
    -- 1. Make size 15: exponent 0. Size 32: 1. Size 0: refused.
    makes (made strict 0 false 15) (Some (block 0 false 0))
    ∷ makes (made strict 0 false 32) (Some (block 0 false 1))
    ∷ makes (made strict 0 false 0) None
    -- 2. Size 4095: exponent 7. Size 4096: refused.
    ∷ makes (made strict 0 false 4095) (Some (block 0 false 7))
    ∷ makes (made strict 0 false 4096) None
    -- 3. Num 65,535: made. 65,536: refused. So in plain mode; in strict mode (document 02) 1,048,575 is made, and 1,048,576 refused.
    ∷ makes (made false 65535 false 16) (Some (block 65535 false 0))
    ∷ makes (made false 65536 false 16) None
    ∷ makes (made true 1048575 false 16) (Some (block 1048575 false 0))
    ∷ makes (made true 1048576 false 16) None
    -- 4. Byte 0x08: num 0, more, size 16. Empty: num 0, not more, size 16.
    ∷ reads (read_of strict (0x08 ∷ [])) (Some (block 0 true 0))
    ∷ reads (read_of strict []) (Some (block 0 false 0))
    ∷ number (size_of 0) 16
    -- 5. T 1152, bare 116, no block: p 1023 none; p 1024 gives 0, more, 1024.
    ∷ negotiates (negotiated (config strict) None 116 1023) (Ok None)
    ∷ negotiates (negotiated (config strict) None 116 1024) (Ok (Some (block 0 true 6)))
    ∷ number (size_of 6) 1024
    -- 6. T 1152: bare 1140 refusal 5; bare 1141 refusal 4.
    ∷ negotiates (negotiated (config strict) None 1140 0) (Err NoBlockValue)
    ∷ negotiates (negotiated (config strict) (Some (block 0 false 0)) 1140 0) (Err NoBlockValue)
    ∷ negotiates (negotiated (config strict) None 1141 0) (Err TooLargeToEncode)
    ∷ negotiates (negotiated (config strict) (Some (block 0 false 0)) 1141 0) (Err TooLargeToEncode)
    -- 7. m = 1000, num 2, size 1024: num 2, size 512.
    ∷ negotiates (within (config strict) (Some (block 2 false 6)) 0 1000) (Ok (Some (block 2 false 5)))
    ∷ number (size_of 5) 512
    -- 8. Nothing assembled, size 1024: num 15 accepted (U at least 16,384); num 16 refusal 6.
    ∷ splices (splice_of_block 16384 0 (block 15 true 6) 1024) (Ok 16384)
    ∷ splices (splice_of_block 65536 0 (block 16 true 6) 1024) (Err Jump)
    -- 9. L 48, num 1, size 16, p 4: new length 36.
    ∷ splices (splice_of_block 64 48 (block 1 false 0) 4) (Ok 36)
    ∷ lists (spliced (replicate 16 1 ++ replicate 16 2 ++ replicate 16 3) 16 16 (replicate 4 9)) (replicate 16 1 ++ replicate 4 9 ++ replicate 16 3)
    -- 10. n 32, size 16: num 1 served, no more; num 2 refusal 8.
    ∷ chunks (chunk_of (block 1 true 0) 32) (Ok (bytes_under (block 1 false 0) 16 32))
    ∷ chunks (chunk_of (block 2 true 0) 32) (Err PastTheEnd)
    -- 11. L 64, blocks 0 and last 1 of 16 full bytes, plain: body 64 long, bytes 32 to 63 old.
    ∷ answers after_first.answer (answer.Continue (block 0 false 0))
    ∷ answers after_last.answer (answer.Handed (block 1 false 0) (bytes_from 0 64))
    ∷ lists (take 64 after_last.piece) (replicate 16 2 ++ replicate 16 3 ++ replicate 32 1)
    -- 12. Strict, nothing assembled, num 1: refusal 9.
    ∷ answers (step true nothing (replicate 64 1) (0x18 ∷ []) (replicate 16 2)).answer (answer.Refused NotNext)
    ∷ []
