-- What a step can come to, gone through once: what is promised of a call's answer is read off these cases. Assumes nothing.
use Rattle.refusal.specs.Numbers.{refusal_number}
use Rattle.std.specs.Prelude.{Option, Some, None, Result, Ok, Err}
use Prim.Native.Nat.{ℕ, ◌+◌, ◌-◌, ◌*◌, ◌≤◌, ◌<◌}
use mathlib.Core.Bool.{Bool, true, false, cond, not, ◌&&◌}
use mathlib.Core.Path.{◌≡◌, refl, sym, ◌∙◌, ap}
use mathlib.Core.Logic.{◌⊎◌, inl, inr}
use mathlib.Core.List.{List, ◌++◌}
use native.Mathlib.Omega.{arith}
use lib.ListN.{length}
use lib.Dec.{leb, ltb}
use borrow.Author.Tests.{not-false, ltb-false, leb-false}
use Rattle.refusal.specs.declared.Refusal.{Refusal}
use Rattle.refusal.specs.declared.Refusal.TheVariants.{NoRoom, OffLimits, ClockBack, TableFull, Jump, NotNext, BadForm}
use Rattle.pieces.specs.Memory.{patch, piece_of}
use Rattle.pieces.proofs.Tests.{on_test}
use Rattle.splicing.specs.Splice.{spliced_length, splice_of, piece_after}
use Rattle.block_value.specs.Value.{block_size, block_start}
use Rattle.block_value.specs.declared.BlockValue.{BlockValue}
use Rattle.negotiation.specs.Negotiation.{request_block, negotiated}
use Rattle.chunks.specs.Chunk.{chunk_of, bytes_under}
use Rattle.chunks.specs.declared.Chunk.{Chunk}
use Rattle.config.specs.declared.Config.{Config}
use Rattle.block_state.specs.declared.Assembled.{Assembled}
use Rattle.block_state.specs.declared.Cached.{Cached}
use Rattle.block_state.specs.declared.BlockState.{BlockState}
use Rattle.block_state.specs.declared.Answer.{Answer}
use Rattle.block_state.specs.declared.Answer.TheVariants.{Continue, TooLarge, Handed, Pass, Served, Plain, Whole, First, Refused}
use Rattle.block_state.specs.Message.{Request, Response, request, response}
use Rattle.block_state.specs.State.{assembly, kept_while, caching, recorded_block, with_recorded}
use Rattle.block_state.specs.Step.{Left, left, bytes_from}
use Rattle.request_block2.specs.Block2 as block2
use Rattle.request_block1.specs.declared.Taken.{Taken}
use Rattle.request_block1.specs.Block1.{bad_form, not_next, length_met, taken_as, taken, piece_taken}
use Rattle.request_step.specs.Step.{on_taken, block1_given, on_negotiated, step_request}
use Rattle.response_step.specs.Step.{chunked, on_reply, step_response}
use Rattle.entries.specs.declared.Entry.{Entry}
use Rattle.key_place.specs.Place.{place}
use Rattle.places.specs.Places.{opened}
use Rattle.call.specs.Call.{World, Call, Done, done, call_at, row_of, within_limits, call}
use Rattle.one_call.specs.Agreed.{request_agrees}

pub cond_same : {A : Type 0} (b : Bool) (x : A) → cond b x x ≡ x
cond_same true x = refl
cond_same false x = refl

-- a splice is refused with 6 or 7, or gives a body that fits
abbrev Sized : ℕ → ℕ → ℕ → ℕ → ℕ → Result ℕ Refusal → Type 0
Sized u l a s p (Err n) = (n ≡ Jump) ⊎ (n ≡ NoRoom)
Sized u l a s p (Ok n) = (n ≡ spliced_length l a s p) × (n ≤ u)

sized : (u l a s p : ℕ) → Sized u l a s p (splice_of u l a s p)
unfolding splice_of
sized u l a s p =
    on_test (Sized u l a s p) (ltb 16384 (a + s - l)) (λ _. inl refl)
    (λ _. on_test (Sized u l a s p) (ltb u (spliced_length l a s p)) (λ _. inr refl) (λ fits. (refl, ltb-false u (spliced_length l a s p) fits)))

module _ (c : Config) (home away : ℕ) (s : BlockState) (u : List ℕ) (r : Request) where
  -- the length that a block meets, and the piece once it is spliced
  abbrev met : BlockValue → ℕ
  met b = length_met c.strict s.assembled b

  abbrev pub spliced-by : BlockValue → List ℕ
  spliced-by b = piece_after u (met b) (block_start b) (block_size b) r.payload

  -- block b was taken, and made a body of n bytes: it is the request's, a reply was agreed on, and strict mode's two tests let it pass
  pub record TookBlock (b reply : BlockValue) (n : ℕ) : Type 0 where
    pub given : request_block c r.block1 ≡ Some b
    pub reached : request_agrees c r ≡ Ok (Some reply)
    pub form : (c.strict && bad_form b (length r.payload)) ≡ false
    pub next : (c.strict && not_next s.assembled b) ≡ false
    pub long : n ≡ spliced_length (met b) (block_start b) (block_size b) (length r.payload)
    pub fits : n ≤ c.upload

  -- the Block1 value that goes out, the answer if nothing is served, and what is left of the assembly and of its piece
  pub data Block1 : Option BlockValue → Answer → Assembled → List ℕ → Type 0 where
    none : Block1 None Pass s.assembled u
    took : (b reply : BlockValue) (n : ℕ) → TookBlock b reply n → Block1 (Some reply) (Handed reply (bytes_from home n)) (assembly 0 0) (spliced-by b)

  -- why the step is refused with nothing changed
  pub data Why : Refusal → Type 0 where
    unagreed : (n : Refusal) → request_agrees c r ≡ Err n → Why n
    badly : (b reply : BlockValue) → request_block c r.block1 ≡ Some b → request_agrees c r ≡ Ok (Some reply)
        → (c.strict && bad_form b (length r.payload)) ≡ true → Why BadForm
    astray : (b reply : BlockValue) → request_block c r.block1 ≡ Some b → request_agrees c r ≡ Ok (Some reply)
        → (c.strict && bad_form b (length r.payload)) ≡ false → (c.strict && not_next s.assembled b) ≡ true → Why NotNext
    unspliced : (n : Refusal) → (n ≡ Jump) ⊎ (n ≡ NoRoom) → Why n

  pub data Outcome : Left → Type 0 where
    refused : (n : Refusal) → Why n → Outcome (left s u (Refused n))
    past : (t : BlockState) (v : List ℕ) (block1 : Option BlockValue) (a : Answer) (z : Assembled) (x : BlockValue) (n : Refusal) → Block1 block1 a z v → t.assembled ≡ z
        → t.cached ≡ s.cached → chunk_of x s.cached.payload ≡ Err n → Outcome (left t v (Refused n))
    too_large : (reply : BlockValue) → request_agrees c r ≡ Ok (Some reply) → Outcome (left s u (TooLarge reply))
    continued : (t : BlockState) (b reply : BlockValue) (n : ℕ) → TookBlock b reply n → t.assembled ≡ assembly n b.size_exponent
        → t.cached ≡ s.cached → Outcome (left t (spliced-by b) (Continue reply))
    onwards : (t : BlockState) (v : List ℕ) (block1 : Option BlockValue) (a : Answer) (z : Assembled) → Block1 block1 a z v → t.assembled ≡ z
        → t.cached ≡ s.cached → Outcome (left t v a)
    serves : (t : BlockState) (v : List ℕ) (block1 : Option BlockValue) (a : Answer) (z : Assembled) (x y : BlockValue) (from to : ℕ) → Block1 block1 a z v
        → t.assembled ≡ z → s.cached.held ≡ true → request_block c r.block2 ≡ Some x → chunk_of x s.cached.payload ≡ Ok (bytes_under y from to)
        → t.cached ≡ kept_while y.more s.cached
        → Outcome
        (left t v (Served (record {
          block1 = block1;
          block2 = y;
          head = bytes_from away s.cached.head;
          chunk = record { from = away + s.cached.head + from; to = away + s.cached.head + to };
        })))

  module _ (t : BlockState) (v : List ℕ) (block1 : Option BlockValue) (a : Answer) (z : Assembled) (k : Block1 block1 a z v) (left_so : t.assembled ≡ z)
      (e : t.cached ≡ s.cached) where
    of-chunk : s.cached.held ≡ true → (x : BlockValue) → request_block c r.block2 ≡ Some x → (ch : Result Chunk Refusal) → chunk_of x s.cached.payload ≡ ch
        → Outcome (block2.served away (with_recorded t (Some x)) v block1 ch)
    unfolding block2.served
    of-chunk held x asks (Err n) is = past _ v block1 a z x n k left_so e is
    of-chunk held x asks (Ok g) is = rw e (serves _ v block1 a z x g.block g.from g.to k left_so held asks is refl)

    of-block2 : (asked : Option BlockValue) → request_block c r.block2 ≡ asked → Outcome (block2.onward away t v asked block1 a)
    unfolding block2.onward
    of-block2 None asks = onwards _ v block1 a z k left_so e
    of-block2 (Some x) asks =
        let same : chunk_of x s.cached.payload ≡ chunk_of x t.cached.payload = ap (λ (y : Cached). chunk_of x y.payload) (sym e) in
        on_test Outcome t.cached.held (λ held. of-chunk (sym (ap (λ (y : Cached). y.held) e) ∙ held) x asks (chunk_of x t.cached.payload) same)
        (λ _. onwards _ v block1 a z k left_so e)

  -- a block that was agreed on, by what taking it came to
  abbrev Taking : BlockValue → BlockValue → Result Taken Refusal → Type 0
  Taking b reply t =
      Outcome (on_taken home away s (piece_taken c s.assembled u b r.payload t) (request_block c r.block2) b.size_exponent reply t)

  of-splice : (b reply : BlockValue)
      → ((n : ℕ) → n ≡ spliced_length (met b) (block_start b) (block_size b) (length r.payload) → n ≤ c.upload → TookBlock b reply n)
      → (sp : Result ℕ Refusal) → Sized c.upload (met b) (block_start b) (block_size b) (length r.payload) sp → (more : Bool) → Taking b reply (taken_as more sp)
  of-splice b reply k (Err n) is more = refused n (unspliced n is)
  of-splice b reply k (Ok n) is true = continued _ b reply n (k n is.0 is.1) refl refl
  of-splice b reply k (Ok n) is false =
      of-block2 _ _ (Some reply) _ _ (took b reply n (k n is.0 is.1)) refl refl (request_block c r.block2) refl

  of-negotiated : (block1 : Option BlockValue) → request_block c r.block1 ≡ block1 → (n : Result (Option BlockValue) Refusal) → request_agrees c r ≡ n
      → Outcome (on_negotiated c home away s u (request_block c r.block2) r.payload block1 n)
  unfolding on_negotiated block1_given taken
  of-negotiated block1 given (Err n) e = refused n (unagreed n e)
  of-negotiated block1 given (Ok None) e = of-block2 s u None Pass s.assembled none refl refl (request_block c r.block2) refl
  of-negotiated None given (Ok (Some reply)) e = too_large reply e
  of-negotiated (Some b) given (Ok (Some reply)) e =
      on_test (Taking b reply) (c.strict && bad_form b (length r.payload)) (λ y. refused BadForm (badly b reply given e y))
      (λ form. on_test (Taking b reply) (c.strict && not_next s.assembled b) (λ y. refused NotNext (astray b reply given e form y))
      (λ next. of-splice b reply (λ n long fits. record { given = given; reached = e; form = form; next = next; long = long; fits = fits })
      (splice_of c.upload (met b) (block_start b) (block_size b) (length r.payload)) (sized _ _ _ _ _) b.more))

  pub outcome : Outcome (step_request c home away s u r)
  unfolding step_request
  outcome = of-negotiated (request_block c r.block1) refl (request_agrees c r) refl

-- ---- a response's step: nothing is stored, or First is answered

module _ (c : Config) (s : BlockState) (d : List ℕ) (r : Response) where
  -- what it negotiates, and the chunk that it cuts then
  abbrev pub responds : Result (Option BlockValue) Refusal
  responds = negotiated c (recorded_block s.recorded) r.bare (length r.payload)

  abbrev pub Cut : BlockValue → ℕ → ℕ → Type 0
  Cut y from to = (b : BlockValue) × (responds ≡ Ok (Some b)) × (chunk_of b (length r.payload) ≡ Ok (bytes_under y from to))

  -- the answers that store nothing
  pub data Unstored : Answer → Type 0 where
    plain : Unstored Plain
    disagreed : (n : Refusal) → responds ≡ Err n → Unstored (Refused n)
    beyond : (b : BlockValue) (n : Refusal) → chunk_of b (length r.payload) ≡ Err n → Unstored (Refused n)
    crowded : Unstored (Refused NoRoom)
    whole : (y : BlockValue) (from to : ℕ) → Cut y from to → Unstored (Whole y (record { from = from; to = to }))

  pub data Storing : Left → Type 0 where
    as_before : (a : Answer) → Unstored a → Storing (left s d a)
    stores : (t : BlockState) (y : BlockValue) (from to : ℕ) → Cut y from to → t.assembled ≡ s.assembled → t.cached ≡ caching (length r.head) (length r.payload)
        → length r.head + length r.payload ≤ c.response
        → Storing (left t (patch d 0 (r.head ++ r.payload)) (First y (record { from = from; to = to })))

  storing-chunk : (b : BlockValue) → responds ≡ Ok (Some b) → (ch : Result Chunk Refusal) → chunk_of b (length r.payload) ≡ ch → Storing (chunked c s d r.head r.payload ch)
  unfolding chunked
  storing-chunk b e (Err n) is = as_before _ (beyond b n is)
  storing-chunk b e (Ok g) is =
      on_test Storing g.block.more
      (λ _. on_test Storing (ltb c.response (length r.head + length r.payload)) (λ _. as_before _ crowded)
      (λ n. stores _ g.block g.from g.to (b, e, is) refl refl (ltb-false c.response (length r.head + length r.payload) n)))
      (λ _. as_before _ (whole g.block g.from g.to (b, e, is)))

  storing-reply : (n : Result (Option BlockValue) Refusal) → responds ≡ n → Storing (on_reply c s d r.head r.payload n)
  unfolding on_reply
  storing-reply (Err n) e = as_before _ (disagreed n e)
  storing-reply (Ok None) e = as_before _ plain
  storing-reply (Ok (Some b)) e = storing-chunk b e (chunk_of b (length r.payload)) refl

  pub storing : Storing (step_response c s d r)
  unfolding step_response
  storing = on_test Storing r.own (λ _. as_before _ plain) (λ _. storing-reply responds refl)

  -- either way what is assembled stays
  pub storing-assembled : (step_response c s d r).state.assembled ≡ s.assembled
  storing-assembled = of _ storing
    where
      of : (g : Left) → Storing g → g.state.assembled ≡ s.assembled
      of g (as_before a k) = refl
      of g (stores t y from to k same cached room) = same

-- ---- calls

-- the place of the call's key, and the entry that the call starts from
abbrev pub place_of : Config → World → Call → ℕ
place_of c w q = place q.key (row_of c w q)

abbrev pub opened_of : Config → World → Call → Entry
opened_of c w q = opened q.key (row_of c w q)

-- a call is refused by the first three checks, with nothing changed, or has its place
pub early-or-placed : (P : Done → Type 0) (c : Config) (w : World) (q : Call) → ((n : Refusal) → (1 ≤ refusal_number n) × (refusal_number n ≤ 3) → P (done w (Refused n)))
    → (within_limits c w q ≡ true → w.table.clock ≤ q.time → place_of c w q < 16
    → P (call_at c w q.time (row_of c w q) (place_of c w q) (opened_of c w q) q.what))
    → P (call c w q)
unfolding call
early-or-placed P c w q early placed =
    on_test P (not (within_limits c w q)) (λ _. early OffLimits (omega arith, omega arith))
    (λ ok. on_test P (ltb q.time w.table.clock) (λ _. early ClockBack (omega arith, omega arith))
    (λ time. on_test P (leb 16 (place_of c w q)) (λ _. early TableFull (omega arith, omega arith))
    (λ room. placed (not-false (within_limits c w q) ok) (ltb-false q.time w.table.clock time) (leb-false 16 (place_of c w q) room))))

-- so a call's answer is an early refusal, or that of an outcome on its key's state
module _ (P : Answer → Type 0) (c : Config) (w : World) (q : Call) (early : (n : Refusal) → (1 ≤ refusal_number n) × (refusal_number n ≤ 3) → P (Refused n)) where
  abbrev here : ℕ
  here = place_of c w q

  abbrev state : BlockState
  state = (opened_of c w q).state

  pub answered : (r : Request) → q.what ≡ request r
      → ((home away : ℕ) (u : List ℕ) (g : Left) → Outcome c home away state u r g → P g.answer) → P (call c w q).answer
  unfolding call_at
  answered r e step =
      let u : List ℕ = piece_of c.upload here w.upload in
      let home : ℕ = here * c.upload in
      let away : ℕ = here * c.response in
      early-or-placed (λ (d : Done). P d.answer) c w q early (λ ok later i16. rw e (step home away u _ (outcome c home away state u r)))

  pub answered-response : (r : Response) → q.what ≡ response r → ((d : List ℕ) (g : Left) → Storing c state d r g → P g.answer) → P (call c w q).answer
  unfolding call_at
  answered-response r e step =
      let d : List ℕ = piece_of c.response here w.response in
      early-or-placed (λ (d : Done). P d.answer) c w q early (λ ok later i16. rw e (step d _ (storing c state d r)))
