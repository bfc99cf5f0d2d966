-- A step from one state on two pairs of pieces that hold the same, as far as the state says that they hold anything: the same state and answer, pieces that again hold the same, and the
-- same bytes shown. Assumes nothing.
use Rattle.std.specs.Prelude.{Option, Some, None, Result, Ok, Err}
use Prim.Native.Nat.{ℕ, ◌+◌, ◌-◌, ◌*◌, ◌≤◌}
use mathlib.Core.Bool.{Bool, true, false, cond, ◌&&◌}
use mathlib.Core.Path.{◌≡◌, refl, sym, ap, ◌∙◌}
use mathlib.Core.List.{List, ◌++◌}
use native.Mathlib.Omega.{arith}
use lib.ListN.{length, take, drop, length-append}
use lib.Seq.{length-take-le}
use lib.Dec.{ltb, eqb}
use borrow.Author.Tests.{leb-true}
use Rattle.refusal.specs.declared.Refusal.{Refusal}
use Rattle.pieces.specs.Memory.{part, within, piece_of}
use Rattle.pieces.proofs.Memory.{take_part, drop-part, within-there}
use Rattle.pieces.proofs.Tests.{ands, by_cases, on_test}
use Rattle.splicing.specs.Splice.{spliced, spliced_length, splice_of, piece_after}
use Rattle.splicing.proofs.Splicing.{length-spliced, taken_is}
use Rattle.block_value.specs.Value.{block_size, block_start}
use Rattle.block_value.specs.declared.BlockValue.{BlockValue}
use Rattle.negotiation.specs.Negotiation.{request_block, negotiated}
use Rattle.chunks.specs.Chunk.{chunk_of}
use Rattle.chunks.specs.declared.Chunk.{Chunk}
use Rattle.chunks.proofs.Laws.{chunk-bounds}
use Rattle.config.specs.declared.Config.{Config}
use Rattle.block_state.specs.declared.BlockState.{BlockState}
use Rattle.block_state.specs.declared.Answer.{Answer}
use Rattle.block_state.specs.declared.Answer.TheVariants.{Handed, Pass}
use Rattle.block_state.specs.Held.{held_in}
use Rattle.block_state.specs.Message.{Request, Response}
use Rattle.block_state.specs.State.{assembly, kept_while, recorded_block, with_assembled, with_recorded, cached_ok}
use Rattle.block_state.specs.Step.{Left, bytes_from}
use Rattle.block_state.proofs.Fits.{StateFits, assembled-most}
use Rattle.request_block1.specs.declared.Taken.{Taken}
use Rattle.request_block1.specs.declared.Taken.TheVariants as block
use Rattle.request_block1.specs.Block1.{bad_form, not_next, length_met, taken_as, taken, piece_taken}
use Rattle.request_block2.specs.Block2.{served, onward}
use Rattle.request_step.specs.Step.{on_taken, block1_given, on_negotiated, step_request}
use Rattle.response_step.specs.Step.{chunked, on_reply, step_response}
use Rattle.apart.specs.Answers as answer
use Rattle.answer_sources.specs.Parts.{number_of, is, body_of, served_head, served_chunk}
use Rattle.demands.proofs.OwnStep.{held_after}

-- what holds of both branches of two tests that go the same way holds of the two choices
pub both-test : {A : Type 0} (P : A → A → Type 0) (a b : Bool) {x x' y y' : A} → a ≡ b → (a ≡ true → P x x') → (a ≡ false → P y y') → P (cond a x y) (cond b x' y')
both-test P true b e t f = rw (← e) (t refl)
both-test P false b e t f = rw (← e) (f refl)

-- ---- the bytes of a piece that an answer names

-- piece i of the memory is p
pub record Piece (n i : ℕ) (m p : List ℕ) : Type 0 where
  pub room : i * n + n ≤ length m
  pub is : piece_of n i m ≡ p

module _ (u i n x y from to : ℕ) (fits : n ≤ u) (up : x ≤ y) (most : y ≤ n) (starts : from ≡ i * u + x) (ends : to ≡ i * u + y) where
  piece-shows : (m p : List ℕ) → Piece u i m p → within m from to ≡ take (y - x) (drop x (take n p))
  unfolding piece_of part
  piece-shows m p h =
      let room = h.room in
      let size : to - from ≡ y - x = omega arith in
      rw (← h.is)
      (sym (within-there m from to (omega arith) (omega arith)) ∙ rw (size, starts)
      (sym (ap (take (y - x)) (ap (drop x) (take_part m (i * u) u n fits) ∙ drop-part m (i * u) n x (omega arith) (omega arith))
      ∙ take_part m (i * u + x) (n - x) (y - x) (omega arith))))

  -- two pieces whose first n bytes are the same show the same
  shows_same : (m m' p p' : List ℕ) → take n p ≡ take n p' → Piece u i m p → Piece u i m' p' → within m from to ≡ within m' from to
  shows_same m m' p p' e h h' = piece-shows m p h ∙ ap (λ (l : List ℕ). take (y - x) (drop x l)) e ∙ sym (piece-shows m' p' h')

-- ---- what two steps leave and answer

-- the pieces hold the same of what the state says that they hold: u and u' for an upload, d and d' for a response
abbrev pub Holds : BlockState → List ℕ → List ℕ → List ℕ → List ℕ → Type 0
Holds s u u' d d' = (take s.assembled.len u ≡ take s.assembled.len u') × (take (held_in s.cached) d ≡ take (held_in s.cached) d')

module _ (c : Config) (i : ℕ) (payload : List ℕ) where
  -- the answer shows the same of any memories that have these pieces at i
  pub record Shown (a : Answer) (u u' d d' : List ℕ) : Type 0 where
    pub body : (m m' : List ℕ) → Piece c.upload i m u → Piece c.upload i m' u' → body_of a payload m ≡ body_of a payload m'
    pub head : (m m' : List ℕ) → Piece c.response i m d → Piece c.response i m' d' → served_head a m ≡ served_head a m'
    pub chunk : (m m' : List ℕ) → Piece c.response i m d → Piece c.response i m' d' → served_chunk a m ≡ served_chunk a m'

  pub record Like (s s' : BlockState) (a a' : Answer) (u u' d d' : List ℕ) : Type 0 where
    pub state : s ≡ s'
    pub answer : a ≡ a'
    pub holds : Holds s u u' d d'
    pub shown : Shown a u u' d d'

  -- of two requests' steps, which change the pieces of the uploads alone, and of two responses' steps, which change those of the responses alone
  abbrev pub LikeRequest : List ℕ → List ℕ → Left → Left → Type 0
  LikeRequest d d' g g' = Like g.state g'.state g.answer g'.answer g.piece g'.piece d d'

  abbrev pub LikeResponse : List ℕ → List ℕ → Left → Left → Type 0
  LikeResponse u u' g g' = Like g.state g'.state g.answer g'.answer u u' g.piece g'.piece

  -- an answer that is neither Handed nor Served shows nothing of a memory
  quiet-shown : {a : Answer} {u u' d d' : List ℕ} → is answer.handed (number_of a) ≡ false → is answer.served (number_of a) ≡ false → Shown a u u' d d'
  quiet-shown {a} e f =
      record {
        body = λ m m' _ _. by_cases (is answer.pass (number_of a)) (λ y. rw y) (λ n. rw (n, e));
        head = λ m m' _ _. rw f;
        chunk = λ m m' _ _. rw f;
      }

  like : {s : BlockState} {a : Answer} {u u' d d' : List ℕ} → Holds s u u' d d' → Shown a u u' d d' → Like s s a a u u' d d'
  like h shown = record { state = refl; answer = refl; holds = h; shown = shown }

  quiet : {s : BlockState} {a : Answer} {u u' d d' : List ℕ} → Holds s u u' d d' → is answer.handed (number_of a) ≡ false → is answer.served (number_of a) ≡ false
      → Like s s a a u u' d d'
  quiet h e f = like h (quiet-shown e f)

  -- ---- a request's step

  module _ (d d' : List ℕ) where
    served-like : (s : BlockState) (u u' : List ℕ) (block1 : Option BlockValue) (b : BlockValue) (g : Result Chunk Refusal) → chunk_of b s.cached.payload ≡ g → s.cached.held ≡ true
        → cached_ok c s.cached ≡ true → Holds s u u' d d' → LikeRequest d d' (served (i * c.response) s u block1 g) (served (i * c.response) s u' block1 g)
    unfolding served cached_ok
    served-like s u u' block1 b (Err n) is held ok h = quiet h refl refl
    served-like s u u' block1 b (Ok g) is held ok h =
        let bounds = chunk-bounds b s.cached.payload g.block g.from g.to is in
        let head : ℕ = s.cached.head in
        let n : ℕ = head + s.cached.payload in
        let same : take n d ≡ take n d' = rw held at h.1 in
        let both = rw held at ok in
        let fits : n ≤ c.response = leb-true n c.response (search ands) in
        like (h.0, kept g.block.more)
        (record {
          body = λ m m' _ _. refl;
          head = λ m m'. shows_same c.response i n 0 head _ _ fits (omega arith) (omega arith) (omega arith) refl m m' d d' same;
          chunk = λ m m'. shows_same c.response i n (head + g.from) (head + g.to) _ _ fits (omega arith) (omega arith) (omega arith) (omega arith) m m' d d' same;
        })
      where
        kept : (more : Bool) → take (held_in (kept_while more s.cached)) d ≡ take (held_in (kept_while more s.cached)) d'
        kept true = h.1
        kept false = refl

    onward-like : (s : BlockState) (u u' : List ℕ) (block2 block1 : Option BlockValue) (a : Answer) → cached_ok c s.cached ≡ true → Holds s u u' d d' → Shown a u u' d d'
        → LikeRequest d d' (onward (i * c.response) s u block2 block1 a) (onward (i * c.response) s u' block2 block1 a)
    unfolding onward
    onward-like s u u' None block1 a ok h shown = like h shown
    onward-like s u u' (Some x) block1 a ok h shown =
        both-test (LikeRequest d d') s.cached.held s.cached.held refl
        (λ held. served-like (with_recorded s (Some x)) u u' block1 x (chunk_of x s.cached.payload) refl held ok h)
        (λ _. like h shown)

    module _ (s : BlockState) (u u' : List ℕ) (ok : cached_ok c s.cached ≡ true) (inside : s.assembled.len ≤ length u) (h : Holds s u u' d d') where
      -- the length that a block meets, and the piece once it is spliced
      abbrev met : BlockValue → ℕ
      met b = length_met c.strict s.assembled b

      abbrev after : BlockValue → List ℕ → List ℕ
      after b piece = piece_after piece (met b) (block_start b) (block_size b) payload

      -- a block meets all that is assembled, or nothing
      met-same : (b : BlockValue) → (met b ≤ length u) × (take (met b) u ≡ take (met b) u')
      unfolding length_met
      met-same b = on_test (λ n. (n ≤ length u) × (take n u ≡ take n u')) (c.strict && eqb b.num 0) (λ _. (omega arith, refl)) (λ _. (inside, h.0))

      -- so both splices put the same body in
      after_same : (b : BlockValue) (n : ℕ) → n ≡ spliced_length (met b) (block_start b) (block_size b) (length payload) → take n (after b u) ≡ take n (after b u')
      unfolding piece_after
      after_same b n long =
          let meets = met-same b in
          let body : List ℕ = spliced (take (met b) u) (block_start b) (block_size b) payload in
          let its : length body ≡ n =
          length-spliced (take (met b) u) (block_start b) (block_size b) payload
          ∙ ap (λ (l : ℕ). spliced_length l (block_start b) (block_size b) (length payload)) (length-take-le (met b) u meets.0) ∙ sym long in
          rw (← its, ← meets.1) (held_after u body ∙ sym (held_after u' body))

      -- what taking a block came to: it fits, and both pieces have it
      abbrev Both : BlockValue → Result Taken Refusal → Type 0
      Both b (Err n) = Unit {0}
      Both b (Ok (block.More n)) = (n ≤ c.upload) × (take n (after b u) ≡ take n (after b u'))
      Both b (Ok (block.Body n)) = (n ≤ c.upload) × (take n (after b u) ≡ take n (after b u'))

      both-taken : (b : BlockValue) → Both b (taken c s.assembled b (length payload))
      unfolding taken
      both-taken b =
          on_test (Both b) (c.strict && bad_form b (length payload)) (λ _. tt)
          (λ _. on_test (Both b) (c.strict && not_next s.assembled b) (λ _. tt) (λ _. of (splice_of c.upload (met b) (block_start b) (block_size b) (length payload)) refl b.more))
        where
          of : (x : Result ℕ Refusal) → splice_of c.upload (met b) (block_start b) (block_size b) (length payload) ≡ x → (more : Bool) → Both b (taken_as more x)
          of (Err n) e more = tt
          of (Ok n) e more =
              let is = taken_is c.upload (met b) (block_start b) (block_size b) (length payload) n e in
              elim more as (λ m. Both b (taken_as m (Ok n))) [
                | true ↦ (is.1, after_same b n is.0)
                | false ↦ (is.1, after_same b n is.0)
              ]

      taken-like : (block2 : Option BlockValue) (b reply : BlockValue) (t : Result Taken Refusal) → Both b t
          → LikeRequest d d'
          (on_taken (i * c.upload) (i * c.response) s (piece_taken c s.assembled u b payload t) block2 b.size_exponent reply t)
          (on_taken (i * c.upload) (i * c.response) s (piece_taken c s.assembled u' b payload t) block2 b.size_exponent reply t)
      taken-like block2 b reply (Err n) k = quiet h refl refl
      taken-like block2 b reply (Ok (block.More n)) k = quiet (k.1, h.1) refl refl
      taken-like block2 b reply (Ok (block.Body n)) k =
          onward-like (with_assembled s (assembly 0 0)) (after b u) (after b u') block2 (Some reply) (Handed reply (bytes_from (i * c.upload) n)) ok (refl, h.1)
          (record {
            body = λ m m'. shows_same c.upload i n 0 n _ _ k.0 (omega arith) (omega arith) (omega arith) refl m m' (after b u) (after b u') k.1;
            head = λ m m' _ _. refl;
            chunk = λ m m' _ _. refl;
          })

      negotiated-like : (block2 block1 : Option BlockValue) (g : Result (Option BlockValue) Refusal)
          → LikeRequest d d' (on_negotiated c (i * c.upload) (i * c.response) s u block2 payload block1 g) (on_negotiated c (i * c.upload) (i * c.response) s u' block2 payload block1 g)
      unfolding on_negotiated block1_given
      negotiated-like block2 block1 (Err n) = quiet h refl refl
      negotiated-like block2 block1 (Ok None) = onward-like s u u' block2 None Pass ok h (quiet-shown refl refl)
      negotiated-like block2 None (Ok (Some reply)) = quiet h refl refl
      negotiated-like block2 (Some b) (Ok (Some reply)) = taken-like block2 b reply (taken c s.assembled b (length payload)) (both-taken b)

  -- ---- a response's step

  module _ (s : BlockState) (u u' d d' : List ℕ) (h : Holds s u u' d d') where
    chunked-like : (head : List ℕ) (g : Result Chunk Refusal) → LikeResponse u u' (chunked c s d head payload g) (chunked c s d' head payload g)
    unfolding chunked
    chunked-like head (Err n) = quiet h refl refl
    chunked-like head (Ok g) =
        let all : List ℕ = head ++ payload in
        let long : length head + length payload ≡ length all = sym (length-append head payload) in
        both-test (LikeResponse u u') g.block.more g.block.more refl
        (λ _. both-test (LikeResponse u u') (ltb c.response (length head + length payload)) (ltb c.response (length head + length payload)) refl (λ _. quiet h refl refl)
        (λ _. quiet (h.0, rw long (held_after d all ∙ sym (held_after d' all))) refl refl))
        (λ _. quiet h refl refl)

    reply-like : (head : List ℕ) (g : Result (Option BlockValue) Refusal) → LikeResponse u u' (on_reply c s d head payload g) (on_reply c s d' head payload g)
    unfolding on_reply
    reply-like head (Err n) = quiet h refl refl
    reply-like head (Ok None) = quiet h refl refl
    reply-like head (Ok (Some b)) = chunked-like head (chunk_of b (length payload))

-- A REQUEST'S STEP
pub request-like : (c : Config) (i : ℕ) (s : BlockState) (u u' d d' : List ℕ) (r : Request) → StateFits c s → length u ≡ c.upload → Holds s u u' d d'
    → LikeRequest c i r.payload d d' (step_request c (i * c.upload) (i * c.response) s u r) (step_request c (i * c.upload) (i * c.response) s u' r)
unfolding step_request
request-like c i s u u' d d' r f size h =
    negotiated-like c i r.payload d d' s u u' f.cached (omega (arith, assembled-most c s.assembled f.assembled)) h (request_block c r.block2) (request_block c r.block1)
    (negotiated c (request_block c r.block1) r.bare (length r.payload))

-- A RESPONSE'S STEP
pub response-like : (c : Config) (i : ℕ) (s : BlockState) (u u' d d' : List ℕ) (r : Response) → Holds s u u' d d'
    → LikeResponse c i r.payload u u' (step_response c s d r) (step_response c s d' r)
unfolding step_response
response-like c i s u u' d d' r h =
    both-test (LikeResponse c i r.payload u u') r.own r.own refl (λ _. quiet c i r.payload h refl refl)
    (λ _. reply-like c i r.payload s u u' d d' h r.head (negotiated c (recorded_block s.recorded) r.bare (length r.payload)))
