-- WHAT IS ANSWERED, STRICT MODE WRITES WHOLE. Assumes nothing.
use Rattle.std.specs.Prelude.{Option, Some, Ok}
use Prim.Native.Nat.{ℕ, ◌≤◌}
use mathlib.Core.Path.{◌≡◌}
use mathlib.Core.Logic.{⊎_elim}
use mathlib.Core.List.{List}
use native.Mathlib.Omega.{arith}
use lib.ListN.{length}
use Rattle.config.specs.declared.Config.{Config}
use Rattle.config.proofs.Mode.{limit-most}
use Rattle.block_value.specs.declared.BlockValue.{BlockValue}
use Rattle.block_option.proofs.Rfc7959.{both-modes}
use Rattle.negotiation.specs.Negotiation.{request_block, negotiated}
use Rattle.chunks.specs.Chunk.{chunk_block}
use Rattle.block_state.specs.declared.Answer.{Answer}
use Rattle.block_state.specs.declared.BlockState.{BlockState}
use Rattle.block_state.specs.Message.{OptionBytes, Request, request}
use Rattle.block_state.specs.Step.{Left}
use Rattle.block_state.proofs.Fits.{Held}
use Rattle.request_step.proofs.StepKeeps.{read_held}
use Rattle.apart.specs.Answers.{said}
use Rattle.call.specs.Call.{World, Call, call}
use Rattle.pairing.proofs.Pairing.{block_within}
use Rattle.one_call.specs.Written.{WrittenWhole, StrictWritesWhole}
use Rattle.one_call.proofs.Outcomes.{Outcome, refused, past, too_large, continued, onwards, serves, none, took, answered}
use Rattle.one_call.proofs.Agreed.{absent-not, chunk-value, agrees}

-- a num of 20 bits and an exponent of three are all that is asked
whole : (b : BlockValue) → b.num ≤ 1048575 → b.size_exponent ≤ 7 → WrittenWhole b
whole b few known = let w = both-modes.strict.write b few known in (w.0, w.1, w.3)

-- what was negotiated has both, and so has a chunk of what has
made-whole : (c : Config) (m : Option BlockValue) (bare p : ℕ) (b : BlockValue) → negotiated c m bare p ≡ Ok (Some b) → (b.num ≤ 1048575) × (b.size_exponent ≤ 7)
made-whole c m bare p b e = let k = block_within c m bare p b e in (omega (arith, k.0, limit-most c.strict), k.1)

chunk_whole : (x b : BlockValue) (n : ℕ) → b ≡ chunk_block x n → (x.num ≤ 1048575) × (x.size_exponent ≤ 7) → WrittenWhole b
chunk_whole x b n e k = rw e (whole (chunk_block x n) k.0 k.1)

-- a request's Block2 value is that of the chunk which its option asks for
abbrev Asked : Config → Request → BlockValue → Type 0
Asked c r b = (x : BlockValue) × (n : ℕ) × (request_block c r.block2 ≡ Some x) × (b ≡ chunk_block x n)

asked : (c : Config) (home away : ℕ) (s : BlockState) (u : List ℕ) (r : Request) (g : Left) → Outcome c home away s u r g → (b : BlockValue)
    → (said g.answer).block2 ≡ Some b → Asked c r b
asked c home away s u r g (refused n why) b e = absent-not b e
asked c home away s u r g (past t v block1 a z x n k l h is) b e = absent-not b e
asked c home away s u r g (too_large y h) b e = absent-not b e
asked c home away s u r g (continued t y reply n k l h) b e = absent-not b e
asked c home away s u r g (onwards t v _ _ _ none l h) b e = absent-not b e
asked c home away s u r g (onwards t v _ _ _ (took y reply n k) l h) b e = absent-not b e
asked c home away s u r g (serves t v _ _ _ x y from to k l held asks is h) b e =
    let same : b ≡ y = cc in
    (x, s.cached.payload, asks, rw same (chunk-value x s.cached.payload y from to is))

asked-call : (c : Config) (w : World) (q : Call) (r : Request) (b : BlockValue) → q.what ≡ request r → (said (call c w q).answer).block2 ≡ Some b → Asked c r b
asked-call c w q r b er =
    answered (λ (a : Answer). (said a).block2 ≡ Some b → Asked c r b) c w q (λ n _ e. absent-not b e) r er
    (λ home away u g o. asked c home away _ u r g o b)

asked-whole : (c : Config) (r : Request) (b : BlockValue) → OptionBytes r.block2 → Asked c r b → WrittenWhole b
asked-whole c r b bytes a =
    let held : Held 1048575 (Some a.0) = rw a.2 at (read_held c r.block2 bytes) in
    chunk_whole a.0 b a.1 a.3 held

pub strict-writes-whole : StrictWritesWhole call
strict-writes-whole =
    record {
      requests = λ c w q r b er bytes.
          ⊎_elim
          (λ one. let k = made-whole c (request_block c r.block1) r.bare (length r.payload) b (agrees.block1 c w q r b er one) in whole b k.0 k.1)
          (λ two. asked-whole c r b bytes (asked-call c w q r b er two));
      responses = λ c w q r b er two.
          let sent = agrees.block2 c w q r b er two in
          chunk_whole sent.0 b (length r.payload) sent.2 (made-whole c _ r.bare (length r.payload) sent.0 sent.1);
    }
