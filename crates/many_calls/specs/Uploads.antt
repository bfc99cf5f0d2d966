-- IN STRICT MODE, WHAT IS HANDED ON IS WHAT WAS TAKEN. In any run from a fresh table, whatever calls stand in it, on any keys and in any order: where a request is answered
-- Handed, the body that is shown is the payloads of the blocks that were taken for that key from the last block 0 that was taken on, one after another, this one's last.
-- Nothing else can be in it: no byte of another key, of an earlier body, or of nobody. (Two pushes on one key cannot be told apart but by a block 0: where the second's is
-- lost, a block of it that starts where the first's end, and is no larger, may follow those.)
use Rattle.std.specs.Prelude.{ℕ, true, cond, ◌≡◌, List, [], ◌∷◌, ◌++◌, eqb, Option, Some, None}
use Rattle.block_value.specs.declared.BlockValue.{BlockValue}
use Rattle.negotiation.specs.Negotiation.{request_block}
use Rattle.config.specs.declared.Config.{Config}
use Rattle.block_state.specs.declared.Part.{Part}
use Rattle.block_state.specs.declared.Answer.{Answer}
use Rattle.block_state.specs.declared.Answer.TheVariants.{Handed}
use Rattle.block_state.specs.Message.{Request, What, request, response}
use Rattle.keys.specs.Keys.{Name, same}
use Rattle.call.specs.Call.{World, Call}
use Rattle.one_call.specs.Handler.{Handler}
use Rattle.one_call.specs.Strict.{took_block}
use Rattle.demands.specs.Demand3.{seen, after, AllBytes, Fresh}

-- A block 0 that was taken starts afresh; any other goes behind what was taken before it.
abbrev pub joined_by : Option BlockValue → List ℕ → List ℕ → List ℕ
joined_by None old payload = old
joined_by (Some b) old payload = cond (eqb b.num 0) payload (old ++ payload)

-- A request whose answer took a block adds to what was taken; nothing else does.
abbrev pub taken_by : Config → What → Answer → List ℕ → List ℕ
taken_by c (request r) a old = cond (took_block a) (joined_by (request_block c r.block1) old r.payload) old
taken_by c (response r) a old = old

abbrev pub taken_on : Config → Name → List ℕ → Call → Answer → List ℕ
taken_on c k old q a = cond (same k q.key) (taken_by c q.what a old) old

-- What was taken for key k in these calls, each from what the call before it left, from the last block 0 that was taken on.
abbrev pub all_taken : Handler → Config → World → Name → List ℕ → List Call → List ℕ
all_taken h c w k old [] = old
all_taken h c w k old (q ∷ calls) = all_taken h c (h c w q).world k (taken_on c k old q (h c w q).answer) calls

unfoldable pub HandsWhatWasTaken : Handler → Type 0
HandsWhatWasTaken h =
    (c : Config) (w : World) (calls : List Call) (q : Call) (r : Request) (b : BlockValue) (body : Part)
    → c.strict ≡ true → Fresh c w → AllBytes (calls ++ (q ∷ [])) → q.what ≡ request r → (h c (after h c w calls) q).answer ≡ Handed b body
    → (seen q (h c (after h c w calls) q)).shown ≡ all_taken h c w q.key [] (calls ++ (q ∷ []))
