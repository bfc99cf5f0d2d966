-- What the statements of Twice.antt, Crossing.antt and Pages.antt of many_calls and Clocks.antt of demands ask for can be given, in both modes, and so can what Strict.antt of
-- one_call asks for (more of it in Falling.antt).
use Rattle.std.specs.Prelude.{ℕ, Bool, true, false, List, [], ◌∷◌, ◌++◌, map, ◌≡◌, length, replicate, Some, None}
use Rattle.config.specs.declared.Config.{Config}
use Rattle.block_state.specs.Message.{request, response}
use Rattle.apart.specs.Answers.{said, served}
use Rattle.keys.specs.Keys.{Name}
use Rattle.block_table.specs.Table.{fresh_table}
use Rattle.answer_sources.specs.Parts.{served_chunk}
use Rattle.call.specs.Call.{World, Call, Done, call}
use Rattle.one_call.specs.Strict.{assembled_for, BadlyFormed, Misplaced, PassesFive}
use Rattle.demands.specs.Demand3.{after, Sent, call_on, block}
use Rattle.demands.specs.Clocks.{GrantedOwn}
use Rattle.many_calls.specs.Twice.{SentAgain}
use Rattle.many_calls.specs.Crossing.{FromFresh, Transfer, Sends}
use Rattle.many_calls.specs.Pages.{Page, last_stored}
use Rattle.cases.specs.Shams.{config, fresh, key, sent, first_block, last_block, later}
use Rattle.cases.specs.Falling.{narrow, lent, falling, first64, next32, last16}

-- ---- The last block sent twice: of two blocks, with other keys' calls between them; of one; and of seventeen of 1,024 bytes, where refusal 6 comes

abbrev pub last_again : Sent
last_again = sent 10 (0x10 ∷ []) (66 ∷ 67 ∷ [])

abbrev pub one_again : Sent
one_again = sent 10 [] (7 ∷ [])

abbrev pub large : Config
large = record { strict = false; limit = 1152; lifetime = 120000; upload = 16385; response = 16 }

abbrev pub lent_world : List ℕ → List ℕ → World
lent_world u d = record { table = fresh_table; upload = u; response = d }

-- A full block of 1,024 bytes whose Block1 option is this byte.
abbrev pub full : ℕ → Sent
full option = sent 1 (option ∷ []) (replicate 1024 0)

abbrev pub sixteen_more : List Sent
sixteen_more =
    map full (0x1E ∷ 0x2E ∷ 0x3E ∷ 0x4E ∷ 0x5E ∷ 0x6E ∷ 0x7E ∷ 0x8E ∷ 0x9E ∷ 0xAE ∷ 0xBE ∷ 0xCE ∷ 0xDE ∷ 0xEE ∷ 0xFE ∷ [])
    ++ (sent 1 (0x01 ∷ 0x06 ∷ []) (9 ∷ []) ∷ [])

abbrev pub far_again : Sent
far_again = sent 2 (0x01 ∷ 0x06 ∷ []) (9 ∷ [])

-- ---- Sixteen keys, each with a push whose size falls twice and then one of a single block

abbrev pub bytes : List ℕ
bytes = 1 ∷ 2 ∷ 3 ∷ 4 ∷ 5 ∷ 6 ∷ 7 ∷ 8 ∷ 9 ∷ 10 ∷ 11 ∷ 12 ∷ 13 ∷ 14 ∷ 15 ∷ 16 ∷ []

abbrev pub backwards : List ℕ
backwards = 16 ∷ 15 ∷ 14 ∷ 13 ∷ 12 ∷ 11 ∷ 10 ∷ 9 ∷ 8 ∷ 7 ∷ 6 ∷ 5 ∷ 4 ∷ 3 ∷ 2 ∷ 1 ∷ []

abbrev pub key_of_byte : ℕ → Name
key_of_byte b = b ∷ []

abbrev pub single_of : ℕ → Sent
single_of b = sent 10 [] (b ∷ b ∷ [])

abbrev pub pushes_of : ℕ → List Transfer
pushes_of b =
    record { exponent = falling; first = first64 5 b; rest = next32 8 b ∷ last16 9 b ∷ [] }
    ∷ record { exponent = λ j. 0; first = single_of b; rest = [] }
    ∷ []

abbrev pub on_each : (ℕ → Sent) → List ℕ → List Call
on_each s l = map (λ b. call_on (key_of_byte b) (s b)) l

-- A call with no key (refusal 1), and one of the first key that goes back in time (refusal 2).
abbrev pub refused : List Call
refused = call_on [] (sent 6 [] []) ∷ call_on (1 ∷ []) (sent 3 (0x08 ∷ []) []) ∷ []

-- The answer to what the first key's first push handed on.
abbrev pub answering : List Call
answering = record { time = 9; key = key_of_byte 1; what = response (record { bare = 36; own = false; head = []; payload = 79 ∷ 75 ∷ [] }) } ∷ []

-- All first blocks; those two; all second blocks, the other way round; all last ones; that answer; all single ones.
abbrev pub crossing : List Call
crossing = on_each (first64 5) bytes ++ (refused ++ (on_each (next32 8) backwards ++ (on_each (last16 9) bytes ++ (answering ++ on_each single_of bytes))))

abbrev pub EachSends : Bool → List ℕ → Type 0
EachSends strict [] = Unit {0}
EachSends strict (b ∷ rest) = Sends (narrow strict) (key_of_byte b) crossing (pushes_of b) × EachSends strict rest

-- ---- Another lane's clock goes back between the blocks

abbrev pub goes_back : List Call
goes_back = call_on (2 ∷ []) (sent 7 (0x08 ∷ []) (replicate 16 90)) ∷ call_on (2 ∷ []) (sent 4 (0x08 ∷ []) (replicate 16 91)) ∷ call_on key last_block ∷ []

-- ---- A block with both faults, which passes checks 1 to 5

abbrev pub both_faults : Sent
both_faults = sent 5 (0x18 ∷ []) (replicate 15 2)

-- ---- A page of 17 bytes is stored for a key, and its second chunk is asked for

abbrev pub page : Page
page = record { head = 7 ∷ []; payload = replicate 16 67 ++ (68 ∷ []) }

abbrev pub storing : List Call
storing = record { time = 5; key = key; what = response (record { bare = 36; own = false; head = page.head; payload = page.payload }) } ∷ []

abbrev pub asking : Call
asking = record { time = 6; key = key; what = request (record { bare = 20; block1 = None; block2 = Some (0x10 ∷ []); payload = [] }) }

abbrev pub asked : Bool → Done
asked strict = call (config strict) (after call (config strict) fresh storing) asking

pub record AllCanBeGiven : Type 0 where
  pub twice : (strict : Bool) → SentAgain (config strict) fresh key (λ j. 0) first_block (last_block ∷ []) later last_again
  pub once : (strict : Bool) → SentAgain (config strict) fresh key (λ j. 0) (sent 5 [] (7 ∷ [])) [] [] one_again
  pub far : (u d : List ℕ) → length u ≡ 262160 → length d ≡ 256
      → SentAgain large (lent_world u d) key (λ j. 6) (full 0x0E) sixteen_more (map (call_on key) sixteen_more) far_again
  pub cross : (strict : Bool) → FromFresh (narrow strict) lent (map key_of_byte bytes) crossing
  pub each : (strict : Bool) → EachSends strict bytes
  pub back : (strict : Bool) → GrantedOwn (config strict) fresh key first_block (last_block ∷ []) goes_back
  pub five : PassesFive (config true) fresh (call_on key both_faults) both_faults.message (block 1 true 0)
  pub bad : BadlyFormed (block 1 true 0) (length both_faults.message.payload)
  pub misplaced : Misplaced (assembled_for (config true) fresh (call_on key both_faults)) (block 1 true 0)
  pub astray : PassesFive (config true) fresh (call_on key (sent 5 (0x18 ∷ []) (replicate 16 2))) (sent 5 (0x18 ∷ []) (replicate 16 2)).message (block 1 true 0)
  pub well : BadlyFormed (block 1 true 0) 16 → ⊥
  pub serves : (strict : Bool) → (said (asked strict).answer).kind ≡ served
  pub stored : (strict : Bool) → last_stored call (config strict) fresh key None storing ≡ Some page
  pub chunk : (strict : Bool) → served_chunk (asked strict).answer (asked strict).world.response ≡ 68 ∷ []
