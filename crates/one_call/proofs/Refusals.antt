-- THE REFUSALS LEAVE WHAT DOCUMENT 01 SAYS. Assumes nothing.
use Rattle.refusal.specs.declared.Refusal.TheVariants.{Jump, NoRoom, PastTheEnd}
use Rattle.refusal.specs.Numbers.{refusal_number}
use Rattle.std.specs.Prelude.{Result, Err}
use Prim.Native.Nat.{ℕ, ◌*◌, ◌≤◌}
use mathlib.Core.Path.{◌≡◌, refl, sym, ◌∙◌, ap}
use mathlib.Core.Logic.{⊎_elim}
use mathlib.Core.List.{List}
use native.Mathlib.Omega.{arith}
use lib.ListN.{length}
use lib.Dec.{leb}
use Rattle.refusal.specs.declared.Refusal.{Refusal}
use Rattle.pieces.specs.Memory.{piece_of}
use Rattle.pieces.proofs.Tests.{on_test}
use Rattle.block_value.specs.Value.{block_start}
use Rattle.block_value.specs.declared.BlockValue.{BlockValue}
use Rattle.chunks.specs.Chunk.{chunk_of}
use Rattle.chunks.specs.declared.Chunk.{Chunk}
use Rattle.config.specs.declared.Config.{Config}
use Rattle.block_state.specs.declared.BlockState.{BlockState}
use Rattle.block_state.specs.declared.Answer.{Answer}
use Rattle.block_state.specs.declared.Answer.TheVariants.{Refused}
use Rattle.block_state.specs.Message.{Request, Response, What, request, response}
use Rattle.block_state.specs.Step.{Left, left}
use Rattle.block_table.specs.Table.{at}
use Rattle.block_table.proofs.Row.{at_set_same}
use Rattle.block_table.proofs.TableFits.{row-length}
use Rattle.key_place.specs.Place.{place}
use Rattle.call.specs.Call.{World, Call, Done, call_at, row_of, call}
use Rattle.call.proofs.Frame.{world-fits}
use Rattle.pairing.proofs.Pairing.{refusal-number}
use Rattle.one_call.specs.Handler.{entry_at}
use Rattle.one_call.specs.Touch.{Placed, touched}
use Rattle.one_call.specs.Refusals.{RefusalsLeave}
use Rattle.one_call.proofs.Outcomes.{place_of, opened_of, Unstored, plain, disagreed, beyond, crowded, whole, Storing, as_before, stores, storing, Why, unagreed, badly, astray}
use Rattle.one_call.proofs.Outcomes.{unspliced, Outcome, refused, past, too_large, continued, onwards, serves, none, took, outcome, early-or-placed}
use Rattle.one_call.proofs.Touch.{made, refused-touches, response-touches}

never : {A : Type 0} → ◌≡◌ {A = ℕ} 0 1 → A
never z = absurd (omega arith)

pub same_reason : (m n : Refusal) → Refused m ≡ Refused n → m ≡ n
same_reason m n e = cc

pub same_number : (m n : Refusal) → Refused m ≡ Refused n → refusal_number m ≡ refusal_number n
same_number m n e = ap refusal_number (same_reason m n e)

-- ---- the numbers

not-eight : (n : Refusal) → n ≡ PastTheEnd → (refusal_number n ≡ 8 → ⊥) → ⊥
not-eight n e no8 = no8 (ap refusal_number e)

chunk-past : (b : BlockValue) (m : ℕ) (n : Refusal) → chunk_of b m ≡ Err n → n ≡ PastTheEnd
unfolding chunk_of
chunk-past b m n =
    on_test (λ (ch : Result Chunk Refusal). ch ≡ Err n → n ≡ PastTheEnd) (leb m (block_start b)) (λ _ e. cc) (λ _ e. never (cc))

-- ---- a request's step that is refused: with nothing changed, or by a chunk past the end

module _ (c : Config) (home away : ℕ) (s : BlockState) (u : List ℕ) (r : Request) (n : Refusal) where
  pub of-refusal : (P : Left → Type 0) → ((m : Refusal) → m ≡ n → Why c home away s u r m → P (left s u (Refused m)))
      → ((m : Refusal) → m ≡ n → n ≡ PastTheEnd → (t : BlockState) (v : List ℕ) → t.cached ≡ s.cached → P (left t v (Refused m)))
      → (g : Left) → Outcome c home away s u r g → g.answer ≡ Refused n → P g
  of-refusal P why over g (refused m k) e = why m (same_reason m n e) k
  of-refusal P why over g (past t v block1 a z x m k l h is) e = over m (same_reason m n e) (sym (same_reason m n e) ∙ chunk-past x _ m is) t v h
  of-refusal P why over g (too_large reply k) e = never (cc)
  of-refusal P why over g (continued t b reply m k l h) e = never (cc)
  of-refusal P why over g (onwards t v _ _ _ none l h) e = never (cc)
  of-refusal P why over g (onwards t v _ _ _ (took b reply m k) l h) e = never (cc)
  of-refusal P why over g (serves t v _ _ _ x y from to k l held asks is h) e = never (cc)

-- a step that leaves everything is refused with 4 to 10, and not with 8
why-number : (c : Config) (home away : ℕ) (s : BlockState) (u : List ℕ) (r : Request) (n : Refusal) → Why c home away s u r n
    → (4 ≤ refusal_number n) × (refusal_number n ≤ 10) × (n ≡ PastTheEnd → ⊥)
why-number c home away s u r n (unagreed m e) =
    ⊎_elim (λ (z : refusal_number m ≡ 4). (omega arith, omega arith, λ y. not-eight m y (omega arith)))
    (λ (z : refusal_number m ≡ 5). (omega arith, omega arith, λ y. not-eight m y (omega arith))) (refusal-number c _ _ _ m e)
why-number c home away s u r n (badly b reply given e y) = (omega arith, omega arith, λ z. not-eight n z (omega arith))
why-number c home away s u r n (astray b reply given e f y) = (omega arith, omega arith, λ z. not-eight n z (omega arith))
why-number c home away s u r n (unspliced m e) =
    ⊎_elim (λ (z : m ≡ Jump). rw z (omega arith, omega arith, λ y. not-eight Jump y (omega arith)))
    (λ (z : m ≡ NoRoom). rw z (omega arith, omega arith, λ y. not-eight NoRoom y (omega arith))) e

abbrev Late : Refusal → Left → Type 0
Late n g = g.answer ≡ Refused n → (4 ≤ refusal_number n) × (refusal_number n ≤ 10)

request-number : (c : Config) (home away : ℕ) (s : BlockState) (u : List ℕ) (r : Request) (g : Left) → Outcome c home away s u r g → (n : Refusal) → Late n g
request-number c home away s u r g o n =
    of-refusal c home away s u r n (λ g. (4 ≤ refusal_number n) × (refusal_number n ≤ 10))
    (λ m z why. let k = rw z at (why-number c home away s u r m why) in (k.0, k.1))
    (λ m z y t v k. rw y (omega arith, omega arith)) g o

unstored-number : (c : Config) (s : BlockState) (d : List ℕ) (r : Response) (a : Answer) → Unstored c s d r a → (n : Refusal) → a ≡ Refused n → (4 ≤ refusal_number n) × (refusal_number n ≤ 10)
unstored-number c s d r a plain n e = never (cc)
unstored-number c s d r a (disagreed m h) n e =
    let z = same_number m n e in
    ⊎_elim (λ (y : refusal_number m ≡ 4). (omega arith, omega arith)) (λ (y : refusal_number m ≡ 5). (omega arith, omega arith)) (refusal-number c _ _ _ m h)
unstored-number c s d r a (beyond b m is) n e = rw (← same_reason m n e, chunk-past b _ m is) (omega arith, omega arith)
unstored-number c s d r a crowded n e = rw (← same_reason NoRoom n e) (omega arith, omega arith)
unstored-number c s d r a (whole y from to k) n e = never (cc)

response-number : (c : Config) (s : BlockState) (d : List ℕ) (r : Response) (g : Left) → Storing c s d r g → (n : Refusal) → Late n g
response-number c s d r g (as_before a k) n e = unstored-number c s d r a k n e
response-number c s d r g (stores t y from to k same cached room) n e = never (cc)

-- ---- what is left

request-same : (c : Config) (home away : ℕ) (s : BlockState) (u : List ℕ) (r : Request) (n : Refusal) → (n ≡ PastTheEnd → ⊥) → (g : Left)
    → Outcome c home away s u r g → g.answer ≡ Refused n → g ≡ left s u (Refused n)
request-same c home away s u r n no8 =
    of-refusal c home away s u r n (λ g. g ≡ left s u (Refused n)) (λ m z why. ap (λ (k : Refusal). left s u (Refused k)) z) (λ m z y t v k. absurd (no8 y))

request-cache : (c : Config) (home away : ℕ) (s : BlockState) (u : List ℕ) (r : Request) (n : Refusal) (g : Left) → Outcome c home away s u r g → g.answer ≡ Refused n
    → g.state.cached ≡ s.cached
request-cache c home away s u r n = of-refusal c home away s u r n (λ g. g.state.cached ≡ s.cached) (λ m z why. refl) (λ m z y t v k. k)

response-same : (c : Config) (s : BlockState) (d : List ℕ) (r : Response) (n : Refusal) (g : Left) → Storing c s d r g → g.answer ≡ Refused n → g ≡ left s d (Refused n)
response-same c s d r n g (as_before a k) e = ap (λ (y : Answer). left s d y) e
response-same c s d r n g (stores t y from to k same cached room) e = never (cc)

module _ (c : Config) (w : World) (q : Call) where
  abbrev i : ℕ
  i = place_of c w q

  abbrev s : BlockState
  s = (opened_of c w q).state

  abbrev u : List ℕ
  u = piece_of c.upload i w.upload

  step-number : (x : What) (n : Refusal) → (call_at c w q.time (row_of c w q) i (opened_of c w q) x).answer ≡ Refused n → (4 ≤ refusal_number n) × (refusal_number n ≤ 10)
  unfolding call_at
  step-number (request r) n = request-number c (i * c.upload) (i * c.response) s u r _ (outcome c (i * c.upload) (i * c.response) s u r) n
  step-number (response r) n = response-number c s (piece_of c.response i w.response) r _ (storing c s (piece_of c.response i w.response) r) n

  ten-at-most : (n : Refusal) → (call c w q).answer ≡ Refused n → (1 ≤ refusal_number n) × (refusal_number n ≤ 10)
  ten-at-most n =
      early-or-placed (λ (d : Done). d.answer ≡ Refused n → (1 ≤ refusal_number n) × (refusal_number n ≤ 10)) c w q
      (λ m h e. let z = same_number m n e in (omega (arith, h.0), omega (arith, h.1)))
      (λ ok later i16 e. let k = step-number q.what n e in (omega (arith, k.0), k.1))

  leaves_all : (n : Refusal) → (call c w q).answer ≡ Refused n → refusal_number n ≤ 3 → (call c w q).world ≡ w
  leaves_all n =
      early-or-placed (λ (d : Done). d.answer ≡ Refused n → refusal_number n ≤ 3 → d.world ≡ w) c w q (λ m h e k. refl)
      (λ ok later i16 e k. absurd (omega (arith, (step-number q.what n e).0)))

  module _ (sixteen : length w.table.entries ≡ 16) (n : Refusal) (e : (call c w q).answer ≡ Refused n) (late : 4 ≤ refusal_number n) where
    has-place : Placed c w q
    has-place =
        early-or-placed (λ (d : Done). d.answer ≡ Refused n → Placed c w q) c w q (λ m h e. let z = same_number m n e in absurd (omega (arith, h.1)))
        (λ ok later i16 e. record { limits = ok; sixteen = sixteen; clock = later; place = i16 }) e

    of-request : (r : Request) → q.what ≡ request r → (n ≡ PastTheEnd → ⊥) → (call c w q).world ≡ touched c w q
    unfolding call_at
    of-request r er no8 =
        let step = rw (made c w q has-place, er) at e in
        (refused-touches c w q has-place r er n (request-same c (i * c.upload) (i * c.response) s u r n no8 _ (outcome c (i * c.upload) (i * c.response) s u r) step)).1

    of-response : (r : Response) → q.what ≡ response r → (call c w q).world ≡ touched c w q
    unfolding call_at
    of-response r er =
        let d : List ℕ = piece_of c.response i w.response in
        let step = rw (made c w q has-place, er) at e in
        (response-touches c w q has-place r er n (response-same c s d r n _ (storing c s d r) step)).1

    of-any : (x : What) → q.what ≡ x → (n ≡ PastTheEnd → ⊥) → (call c w q).world ≡ touched c w q
    of-any (request r) er no8 = of-request r er no8
    of-any (response r) er no8 = of-response r er

    keeps-cache : (r : Request) → q.what ≡ request r → (entry_at (call c w q).world i).state.cached ≡ s.cached
    unfolding call_at
    keeps-cache r er =
        let f = world-fits c w q has-place.limits sixteen in
        let long : length (row_of c w q) ≡ 16 = row-length c w.table q.time f.table sixteen in
        let step = rw (made c w q has-place, er) at e in
        rw (made c w q has-place, er, at_set_same (row_of c w q) i _ (omega (arith, has-place.place)))
        (request-cache c (i * c.upload) (i * c.response) s u r n _ (outcome c (i * c.upload) (i * c.response) s u r) step)

pub refusals-leave : RefusalsLeave call
refusals-leave =
    record {
      ten = ten-at-most;
      everything = leaves_all;
      touch = λ c w q n sixteen e late no8. of-any c w q sixteen n e late q.what refl (λ z. no8 (ap refusal_number z));
      eight = λ c w q r sixteen er e. of-response c w q sixteen PastTheEnd e (omega arith) r er;
      cache = λ c w q r sixteen er e. keeps-cache c w q sixteen PastTheEnd e (omega arith) r er;
    }
