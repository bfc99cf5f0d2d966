-- Demand 3 of the compiled calls. Meant c w q w' a is what both `intercept_request` and `intercept_response` ensure (crates/block_handler/src/lib.rt; RequestEnsures and
-- ResponseEnsures below say it of the contracts themselves): c is the configuration, w the table and memories that the call is lent, q the call that its
-- parameters make (request_call, response_call), w' the table that it returns and the memories as it leaves them, and a its answer. The body
-- that is seen is what the function `body` ensures, body_of (crates/answers/src/lib.rt). None of the three asks anything of its caller.
use Rattle.std.specs.Prelude.{ℕ, ◌≡◌, List, [], ◌∷◌}
use contract.Lifetimes.{Lfts}
use denote.Triple.Clauses.{AtExit}
use borrow.Fn.World.{ArgsD, ResD}
use borrow.Fn.Kinds.{ended_of}
use Rattle.config.specs.declared.Config.{Config}
use Rattle.keys.specs.Keys.{Name}
use Rattle.answer_sources.specs.Parts.{body_of}
use Rattle.answers.specs.contracts.body as body_contract
use Rattle.answers.proofs.body
use Rattle.call.specs.Call.{World, Call, Done, call}
use Rattle.call.specs.Contract.{world, request_call, response_call, Meant}
use Rattle.block_handler.specs.contracts.intercept_request as request_contract
use Rattle.block_handler.specs.contracts.intercept_response as response_contract
use Rattle.block_handler.proofs.intercept_request
use Rattle.block_handler.proofs.intercept_response
use Rattle.one_call.specs.Handler.{Handler}
use Rattle.demands.specs.Demand3.{Seen, seen, run, after, seen_on, Sent, call_on, joined, Granted, HandsOn}
use Rattle.demands.specs.Falling.{FallingBlocks}

-- ---- What the compiled calls ensure, and that they ask nothing

-- What `intercept_request` ensures, as the checker reads it off the function, is `Meant` of its parameters `a`, its result `r` and its
-- parameters as they are at exit, `s`. (A parameter is reached by its place: the configuration, the table, the upload memory and the response memory, `mems`;
-- the numbers, the key, the options or the head, and the payload, `message`.)
abbrev pub RequestEnsures : Type 1
RequestEnsures =
    (κs : Lfts 2) (a : ArgsD request_contract.signature κs) (r : ResD request_contract.signature κs)
    (s : AtExit (ended_of 2 intercept_request.Kinds.ps intercept_request.Kinds.r) κs)
    → let mems = a.1.1 in
    let message = mems.1.1 in
    intercept_request.Reads.Learnt κs a r s
    ≡ Meant a.0 (world a.1.0 mems.0.now mems.1.0.now)
    (request_call message.0 message.1.0.now message.1.1.0.now message.1.1.1.0.now message.1.1.1.1.0.now)
    (world r.table s.1.1.0.now mems.1.0.now) r.answer

-- And `intercept_response`.
abbrev pub ResponseEnsures : Type 1
ResponseEnsures =
    (κs : Lfts 2) (a : ArgsD response_contract.signature κs) (r : ResD response_contract.signature κs)
    (s : AtExit (ended_of 2 intercept_response.Kinds.ps intercept_response.Kinds.r) κs)
    → let mems = a.1.1 in
    let message = mems.1.1 in
    intercept_response.Reads.Learnt κs a r s
    ≡ Meant a.0 (world a.1.0 mems.0.now mems.1.0.now)
    (response_call message.0 message.1.0.now message.1.1.0.now message.1.1.1.0.now)
    (world r.table mems.0.now s.1.1.1.0.now) r.answer

-- The body that is seen is what `body` ensures of the answer, the payload and the upload memory.
abbrev pub BodyEnsures : Type 1
BodyEnsures =
    (κs : Lfts 1) (a : ArgsD body_contract.signature κs) (r : ResD body_contract.signature κs) (s : AtExit (ended_of 1 body.Kinds.ps body.Kinds.r) κs)
    → body.Reads.Learnt κs a r s ≡ (r.now ≡ body_of a.0 a.1.0.now a.1.1.0.now)

-- `Asked` is what a caller must show, as the checker reads it off the function's own contract; `Unit` asks nothing.
abbrev pub RequestAsks : Type 1
RequestAsks = (κs : Lfts 2) (a : ArgsD request_contract.signature κs) → intercept_request.Reads.Asked κs a ≡ Unit {0}

abbrev pub ResponseAsks : Type 1
ResponseAsks = (κs : Lfts 2) (a : ArgsD response_contract.signature κs) → intercept_response.Reads.Asked κs a ≡ Unit {0}

abbrev pub BodyAsks : Type 1
BodyAsks = (κs : Lfts 1) (a : ArgsD body_contract.signature κs) → body.Reads.Asked κs a ≡ Unit {0}

-- ---- What holds of whatever keeps these contracts

-- A handler every step of which is as the contracts say. (The compiled calls take tables and numbers of their types alone: what is tied to them
-- is `RunsAreCalls` below.)
abbrev pub KeepsContract : Handler → Type 0
KeepsContract h = (c : Config) (w : World) (q : Call) → Meant c w q (h c w q).world (h c w q).answer

-- Whatever is promised of a handler and proved of the definition of a call holds of every handler that keeps the contracts.
abbrev pub OfAllThatKeep : Type 1
OfAllThatKeep = (Promise : Handler → Type 0) → Promise call → (h : Handler) → KeepsContract h → Promise h

-- A run as the list of what its calls left and answered, each as the contracts say, from what the call before it left.
abbrev pub Ran : Config → World → List Call → List Done → Type 0
Ran c w [] [] = Unit {0}
Ran c w [] (d ∷ results) = ⊥
Ran c w (q ∷ calls) [] = ⊥
Ran c w (q ∷ calls) (d ∷ results) = Meant c w q d.world d.answer × Ran c d.world calls results

abbrev pub seen_of : List Call → List Done → List Seen
seen_of [] results = []
seen_of (q ∷ calls) [] = []
seen_of (q ∷ calls) (d ∷ results) = seen q d ∷ seen_of calls results

-- The table and memories that it leaves.
abbrev pub end_of : World → List Done → World
end_of w [] = w
end_of w (d ∷ results) = end_of d.world results

-- Every such run is the definition's: what is promised of the definition's runs is promised of it.
unfoldable pub RunsAreCalls : Type 0
RunsAreCalls =
    (c : Config) (w : World) (calls : List Call) (results : List Done) → Ran c w calls results
    → (seen_of calls results ≡ run call c w calls) × (end_of w results ≡ after call c w calls)

-- Demand 3 of every such run, also where sizes fall. (Blocks of one size are such blocks: `OneSize` in Falling.antt.)
unfoldable pub Demand3OfRuns : Type 0
Demand3OfRuns =
    (c : Config) (w : World) (k : Name) (x : ℕ → ℕ) (first : Sent) (rest : List Sent) (later : List Call) (results : List Done)
    → FallingBlocks c x first rest → Granted c w k first rest later → Ran c w (call_on k first ∷ later) results
    → HandsOn (joined first rest) (seen_on k (seen_of (call_on k first ∷ later) results))
