-- IF A CHUNK IS SERVED, IT IS THE PAGE'S. In any run from a fresh table: where a request is answered Served, the head that is shown is the head, and the chunk that is
-- shown is bytes ks up to min(ks + s, n) of the payload, of the response that First stored last for that key; k and s are the num and size that the request's Block2 asks
-- for, n is the length of that payload, and "more" is said exactly if more follows. Whatever calls stand before it, on any keys.
use Rattle.std.specs.Prelude.{ℕ, ◌+◌, ◌-◌, min, Bool, true, false, cond, ◌≡◌, List, [], ◌∷◌, length, Option, Some, None}
use Rattle.pieces.specs.Memory.{part}
use Rattle.block_value.specs.Value.{block_size, block_start}
use Rattle.block_value.specs.declared.BlockValue.{BlockValue}
use Rattle.negotiation.specs.Negotiation.{request_block}
use Rattle.chunks.specs.Chunk.{chunk_block}
use Rattle.config.specs.declared.Config.{Config}
use Rattle.block_state.specs.declared.Served as served
use Rattle.block_state.specs.declared.Answer.{Answer}
use Rattle.block_state.specs.declared.Answer.TheVariants.{Continue, TooLarge, Handed, Pass, Served, Plain, Whole, First, Refused}
use Rattle.block_state.specs.Message.{Request, What, request, response}
use Rattle.keys.specs.Keys.{Name, same}
use Rattle.answer_sources.specs.Parts.{served_head, served_chunk}
use Rattle.call.specs.Call.{World, Call}
use Rattle.one_call.specs.Handler.{Handler}
use Rattle.demands.specs.Demand3.{after, AllBytes, Fresh}

-- ---- What First stored last for a key

pub record Page : Type 0 where
  pub head : List ℕ
  pub payload : List ℕ

abbrev pub is_first : Answer → Bool
is_first (Continue b) = false
is_first (TooLarge b) = false
is_first (Handed b body) = false
is_first Pass = false
is_first (Served s) = false
is_first Plain = false
is_first (Whole b chunk) = false
is_first (First b chunk) = true
is_first (Refused n) = false

-- A response that is answered First stores its head and payload; nothing else stores anything.
abbrev pub stored_by : What → Answer → Option Page → Option Page
stored_by (request r) a old = old
stored_by (response r) a old = cond (is_first a) (Some (record { head = r.head; payload = r.payload })) old

abbrev pub noted : Name → Option Page → Call → Answer → Option Page
noted k old q a = cond (same k q.key) (stored_by q.what a old) old

-- What First stored last for key k in these calls, also if it was dropped or expired since.
abbrev pub last_stored : Handler → Config → World → Name → Option Page → List Call → Option Page
last_stored h c w k old [] = old
last_stored h c w k old (q ∷ calls) = last_stored h c (h c w q).world k (noted k old q (h c w q).answer) calls

-- ---- What is promised

pub record ShowsPage (c : Config) (r : Request) (b : BlockValue) (stored : Option Page) (head chunk : List ℕ) : Type 0 where
  pub page : Page
  pub last : stored ≡ Some page
  -- The request's Block2 value is `asked`. The answer's is document 01's of that chunk: "more exactly if (k+1)s < n; num and exponent are those asked".
  pub asked : BlockValue
  pub asks : request_block c r.block2 ≡ Some asked
  pub value : b ≡ chunk_block asked (length page.payload)
  pub its_head : head ≡ page.head
  pub its_chunk : chunk ≡ part page.payload (block_start asked) (min (block_start asked + block_size asked) (length page.payload) - block_start asked)

unfoldable pub ServesThePage : Handler → Type 0
ServesThePage h =
    (c : Config) (w : World) (calls : List Call) (q : Call) (r : Request) (s : served.Served)
    → Fresh c w → AllBytes calls
    → q.what ≡ request r → (h c (after h c w calls) q).answer ≡ Served s
    → ShowsPage c r s.block2 (last_stored h c w q.key None calls)
    (served_head (h c (after h c w calls) q).answer (h c (after h c w calls) q).world.response)
    (served_chunk (h c (after h c w calls) q).answer (h c (after h c w calls) q).world.response)
