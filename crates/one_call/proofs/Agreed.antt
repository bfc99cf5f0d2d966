-- EVERY PAIRING, IN THE CALLS. Assumes nothing.
use Rattle.std.specs.Prelude.{Some, None, Result, Ok, Err}
use Prim.Native.Nat.{ℕ}
use mathlib.Core.Bool.{false}
use mathlib.Core.Path.{◌≡◌, sym, ap, ◌∙◌}
use mathlib.Core.List.{List}
use native.Mathlib.Omega.{arith}
use lib.ListN.{length}
use lib.Dec.{leb}
use Rattle.refusal.specs.declared.Refusal.{Refusal}
use Rattle.pieces.proofs.Tests.{on_test}
use Rattle.block_value.specs.Value.{block_start}
use Rattle.block_value.specs.declared.BlockValue.{BlockValue}
use Rattle.chunks.proofs.Laws.{same-chunk}
use Rattle.chunks.specs.Chunk.{chunk_of, chunk_block, bytes_under}
use Rattle.chunks.specs.declared.Chunk.{Chunk}
use Rattle.config.specs.declared.Config.{Config}
use Rattle.block_state.specs.declared.BlockState.{BlockState}
use Rattle.block_state.specs.declared.Answer.{Answer}
use Rattle.block_state.specs.declared.Answer.TheVariants.{Refused}
use Rattle.block_state.specs.Message.{Request, Response, request, response}
use Rattle.apart.specs.Answers.{said}
use Rattle.block_state.specs.Step.{Left}
use Rattle.call.specs.Call.{World, Call, call}
use Rattle.one_call.specs.Touch.{Placed, RefusesTo}
use Rattle.one_call.specs.Agreed.{request_agrees, response_agrees, Agrees}
use Rattle.one_call.proofs.Step.{step-unagreed, response-unagreed}
use Rattle.one_call.proofs.Outcomes.{Outcome, refused, past, too_large, continued, onwards, serves, none, took, responds, Cut, Unstored, plain, disagreed, beyond, crowded, whole}
use Rattle.one_call.proofs.Outcomes.{Storing, as_before, stores, answered, answered-response}
use Rattle.one_call.proofs.Touch.{refused-touches, response-touches}

pub absent-not : {A : Type 0} (b : BlockValue) → None ≡ Some b → A
absent-not b e = let z : ◌≡◌ {A = ℕ} 0 1 = cc in absurd (omega arith)

-- ---- a request's Block1 value

told : (c : Config) (home away : ℕ) (s : BlockState) (u : List ℕ) (r : Request) (g : Left) → Outcome c home away s u r g
    → (reply : BlockValue) → (said g.answer).block1 ≡ Some reply → request_agrees c r ≡ Ok (Some reply)
told c home away s u r g (refused n why) reply e = absent-not reply e
told c home away s u r g (past t v block1 a z x n k l h is) reply e = absent-not reply e
told c home away s u r g (too_large y h) reply e = cc
told c home away s u r g (continued t b y n k l h) reply e = cc k.reached
told c home away s u r g (onwards t v _ _ _ none l h) reply e = absent-not reply e
told c home away s u r g (onwards t v _ _ _ (took b y n k) l h) reply e = cc k.reached
told c home away s u r g (serves t v _ _ _ x y from to none l held asks is h) reply e = absent-not reply e
told c home away s u r g (serves t v _ _ _ x y from to (took b z n k) l held asks is h) reply e = cc k.reached

told-call : (c : Config) (w : World) (q : Call) (r : Request) (reply : BlockValue) → q.what ≡ request r → (said (call c w q).answer).block1 ≡ Some reply
    → request_agrees c r ≡ Ok (Some reply)
told-call c w q r reply er =
    answered (λ (a : Answer). (said a).block1 ≡ Some reply → request_agrees c r ≡ Ok (Some reply)) c w q (λ n _ e. absent-not reply e) r er
    (λ home away u g o. told c home away _ u r g o reply)

-- ---- a response's Block2 value

-- a chunk's value is the document's
pub chunk-value : (x : BlockValue) (n : ℕ) (y : BlockValue) (from to : ℕ) → chunk_of x n ≡ Ok (bytes_under y from to) → y ≡ chunk_block x n
unfolding chunk_of
chunk-value x n y from to =
    on_test (λ (ch : Result Chunk Refusal). ch ≡ Ok (bytes_under y from to) → y ≡ chunk_block x n) (leb n (block_start x))
    (λ _ e. let z : ◌≡◌ {A = ℕ} 0 1 = cc in absurd (omega arith))
    (λ _ e. sym (ap (λ (k : Chunk). k.block) (same-chunk _ _ e)))

module _ (c : Config) (s : BlockState) (d : List ℕ) (r : Response) (reply : BlockValue) where
  abbrev Sent : Type 0
  Sent = (b : BlockValue) × (responds c s d r ≡ Ok (Some b)) × (reply ≡ chunk_block b (length r.payload))

  cut-sent : (y : BlockValue) (from to : ℕ) → Cut c s d r y from to → Some y ≡ Some reply → Sent
  cut-sent y from to k e = let same : reply ≡ y = cc in (k.0, k.1, same ∙ chunk-value k.0 (length r.payload) y from to k.2)

  sent-whole : (a : Answer) → Unstored c s d r a → (said a).block2 ≡ Some reply → Sent
  sent-whole a plain e = absent-not reply e
  sent-whole a (disagreed n h) e = absent-not reply e
  sent-whole a (beyond b n is) e = absent-not reply e
  sent-whole a crowded e = absent-not reply e
  sent-whole a (whole y from to k) e = cut-sent y from to k e

  sent-so : (g : Left) → Storing c s d r g → (said g.answer).block2 ≡ Some reply → Sent
  sent-so g (as_before a k) e = sent-whole a k e
  sent-so g (stores t y from to k same cached room) e = cut-sent y from to k e

sent-call : (c : Config) (w : World) (q : Call) (r : Response) (reply : BlockValue) → q.what ≡ response r → (said (call c w q).answer).block2 ≡ Some reply
    → (b : BlockValue) × (response_agrees c w q r ≡ Ok (Some b)) × (reply ≡ chunk_block b (length r.payload))
sent-call c w q r reply er =
    answered-response (λ (a : Answer). (said a).block2 ≡ Some reply → (b : BlockValue) × (response_agrees c w q r ≡ Ok (Some b)) × (reply ≡ chunk_block b (length r.payload)))
    c w q (λ n _ e. absent-not reply e) r er (λ d g k. sent-so c _ d r reply g k)

-- ---- refusals 4 and 5

module _ (c : Config) (w : World) (q : Call) (n : Refusal) (p : Placed c w q) where
  request-refused : (r : Request) → q.what ≡ request r → request_agrees c r ≡ Err n → RefusesTo n call c w q
  request-refused r e g = refused-touches c w q p r e n (step-unagreed c _ _ _ _ r n g)

  response-refused : (r : Response) → q.what ≡ response r → r.own ≡ false → response_agrees c w q r ≡ Err n → RefusesTo n call c w q
  response-refused r e own g = response-touches c w q p r e n (response-unagreed c _ _ r own n g)

pub agrees : Agrees call
agrees =
    record {
      request_refused = λ c w q r n p e g. request-refused c w q n p r e g;
      response_refused = λ c w q r n p e own g. response-refused c w q n p r e own g;
      block1 = told-call;
      block2 = sent-call;
    }
