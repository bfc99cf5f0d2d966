-- What a step comes to, a law for each branch that the proofs need, and what the mode decides in it. Here and in Outcomes.antt alone they look into the steps. Assumes
-- nothing.
use Rattle.std.specs.Prelude.{Option, Some, None, Result, Ok, Err}
use Prim.Native.Nat.{ℕ, ◌+◌, ◌/◌, ◌≤◌, ◌<◌}
use mathlib.Core.Bool.{Bool, true, false, false≢true, ◌&&◌}
use mathlib.Core.Path.{◌≡◌, refl, sym, ◌∙◌, ap}
use mathlib.Core.List.{List, [], ◌∷◌}
use native.Mathlib.Omega.{arith}
use lib.Dec.{ltb, eqb}
use lib.ListN.{length}
use borrow.Author.Tests.{ltb-true, ltb-false, lt-ltb, le-ltb, eqb-false}
use Rattle.refusal.specs.declared.Refusal.{Refusal}
use Rattle.refusal.specs.declared.Refusal.TheVariants.{NotNext, BadForm}
use Rattle.pieces.proofs.Tests.{by_cases}
use Rattle.config.specs.Mode.{byte_limit, num_limit}
use Rattle.config.proofs.Mode.{bytes-least, bytes_most, limit-least, limit-most}
use Rattle.splicing.specs.Splice.{splice_of, piece_after}
use Rattle.block_value.specs.Value.{made, block_size, block_start}
use Rattle.block_option.specs.Uint.{uint}
use Rattle.block_option.specs.Option.{unpacked, read_of}
use Rattle.block_option.proofs.Laws.{read-few, read-long}
use Rattle.block_value.specs.declared.BlockValue.{BlockValue}
use Rattle.negotiation.specs.Negotiation.{request_block, negotiated, within, reply_at}
use Rattle.chunks.specs.declared.Chunk.{Chunk}
use Rattle.config.specs.declared.Config.{Config}
use Rattle.block_state.specs.declared.BlockState.{BlockState}
use Rattle.block_state.specs.declared.Answer.TheVariants.{Continue, Handed, Refused}
use Rattle.block_state.specs.Message.{Request, Response}
use Rattle.block_state.specs.State.{assembly, recorded_block, with_assembled, with_recorded}
use Rattle.block_state.specs.Step.{Left, left, bytes_from}
use Rattle.request_block1.specs.declared.Taken.{Taken}
use Rattle.request_block1.specs.declared.Taken.TheVariants as block
use Rattle.request_block1.specs.Block1.{bad_form, not_next, length_met, taken_as, taken, piece_taken}
use Rattle.request_step.specs.Step.{on_taken, block1_given, on_negotiated, step_request}
use Rattle.request_block1.proofs.Taking.{taken-bad, taken-not-next, taken_next}
use Rattle.request_block2.specs.Block2.{onward}
use Rattle.request_block2.proofs.Serving.{onward-absent}
use Rattle.request_step.proofs.Steps as steps
use Rattle.response_step.specs.Step.{chunked, on_reply, step_response}
use Rattle.pairing.specs.Pairing.{room_of, granted}
use Rattle.one_call.specs.Agreed.{request_agrees}
use Rattle.one_call.specs.Strict.{plainly, SaysTheSame, OnlyStrictMakes, ReadAlike}
use Rattle.one_call.proofs.Checks.{meets-all}

-- ---- what both modes read and negotiate alike

reads-alike : (strict : Bool) (bytes : List ℕ) → (length bytes ≡ 3 → ⊥) → read_of false bytes ≡ read_of strict bytes
reads-alike strict bytes other =
    by_cases (ltb 2 (length bytes))
    (λ y.
    let four : 3 < length bytes = past (ltb-true 2 (length bytes) y) in
    rw (read-long false bytes (omega (arith, bytes_most false)), read-long strict bytes (omega (arith, bytes_most strict))))
    (λ n.
    let two : length bytes ≤ 2 = ltb-false 2 (length bytes) n in
    rw (read-few false bytes (omega (arith, bytes-least false)), read-few strict bytes (omega (arith, bytes-least strict))))
  where
    past : 2 < length bytes → 3 < length bytes
    past l = omega (arith, other)

zero-in-front : (a b : ℕ) → read_of false (a ∷ b ∷ []) ≡ read_of true (0 ∷ a ∷ b ∷ [])
unfolding read_of byte_limit uint
zero-in-front a b = ap (λ (n : ℕ). Some (unpacked n)) (omega arith)

pub read_alike : ReadAlike
unfolding request_block
read_alike =
    record {
      absent = λ c. refl;
      given = λ c bytes other. reads-alike c.strict bytes other;
      shorter = λ c a b strict. rw strict (zero-in-front a b);
    }

-- both make a num within plain mode's limit, and neither one above strict mode's
made-near : (strict : Bool) (num : ℕ) (more : Bool) (size : ℕ) → num ≤ 65535 → made strict num more size ≡ made false num more size
unfolding made
made-near strict num more size h =
    rw (le-ltb (num_limit strict) num (omega (arith, limit-least strict)), le-ltb (num_limit false) num (omega (arith, limit-least false)))

made-beyond : (strict : Bool) (num : ℕ) (more : Bool) (size : ℕ) → 1048575 < num → made strict num more size ≡ made false num more size
unfolding made
made-beyond strict num more size h =
    rw (lt-ltb (num_limit strict) num (omega (arith, limit-most strict)), lt-ltb (num_limit false) num (omega (arith, limit-most false)))

agreed-plainly : (c : Config) (b : Option BlockValue) (bare p : ℕ) → (OnlyStrictMakes c b bare → ⊥) → negotiated c b bare p ≡ negotiated (plainly c) b bare p
unfolding negotiated within reply_at num_limit
agreed-plainly c None bare p only = rw (made-near c.strict 0 true (room_of c bare) (omega arith))
agreed-plainly c (Some b) bare p only =
    by_cases (eqb g 0) (λ z. rw z)
    (λ z.
    by_cases (ltb 65535 num)
    (λ y.
    by_cases (ltb 1048575 num)
    (λ far. rw (made-beyond c.strict num (ltb (block_start b + g) p) g (ltb-true 1048575 num far)))
    (λ near. absurd (only (eqb-false g 0 z, ltb-true 65535 num y, ltb-false 1048575 num near))))
    (λ low. rw (made-near c.strict num (ltb (block_start b + g) p) g (ltb-false 65535 num low))))
  where
    g : ℕ
    g = granted (Some b) (room_of c bare)

    num : ℕ
    num = block_start b / g

-- ---- a request's step

module _ (c : Config) (home away : ℕ) (s : BlockState) (u : List ℕ) (r : Request) where
  abbrev p : ℕ
  p = length r.payload

  abbrev block2 : Option BlockValue
  block2 = request_block c r.block2

  abbrev step : Left
  step = step_request c home away s u r

  pub step-unagreed : (n : Refusal) → request_agrees c r ≡ Err n → step ≡ left s u (Refused n)
  unfolding step_request
  step-unagreed n e = steps.step-refused c home away s u block2 r.payload (request_block c r.block1) (request_agrees c r) n e

  -- block b was agreed on
  module _ (b reply : BlockValue) (given : request_block c r.block1 ≡ Some b) (reached : request_agrees c r ≡ Ok (Some reply)) where
    goes_on : (t : Result Taken Refusal) → taken c s.assembled b p ≡ t
        → step ≡ on_taken home away s (piece_taken c s.assembled u b r.payload t) block2 b.size_exponent reply t
    unfolding step_request
    goes_on t e = steps.step_given c home away s u block2 r.payload (request_block c r.block1) (request_agrees c r) reply reached b t given (sym e)

    pub step-bad : (c.strict && bad_form b p) ≡ true → step ≡ left s u (Refused BadForm)
    step-bad bad = goes_on (Err BadForm) (taken-bad c s.assembled b p bad)

    module _ (good : (c.strict && bad_form b p) ≡ false) where
      pub step-astray : (c.strict && not_next s.assembled b) ≡ true → step ≡ left s u (Refused NotNext)
      step-astray away-from = goes_on (Err NotNext) (taken-not-next c s.assembled b p good away-from)

      -- both checks let it pass, and it meets l bytes
      module _ (next : (c.strict && not_next s.assembled b) ≡ false) (l : ℕ) (met : length_met c.strict s.assembled b ≡ l) where
        abbrev spliced : Result ℕ Refusal
        spliced = splice_of c.upload l (block_start b) (block_size b) p

        is-taken : (x : Result ℕ Refusal) → spliced ≡ x → taken c s.assembled b p ≡ taken_as b.more x
        is-taken x e =
            let meeting : splice_of c.upload (length_met c.strict s.assembled b) (block_start b) (block_size b) p ≡ x = rw met e in
            taken_next c s.assembled b p good next ∙ ap (taken_as b.more) meeting

        pub step-unspliced : (n : Refusal) → spliced ≡ Err n → step ≡ left s u (Refused n)
        step-unspliced n e = goes_on (Err n) (is-taken (Err n) e)

        -- it is spliced: the body has n bytes, and stands in the piece v
        module _ (n : ℕ) (v : List ℕ) (body : spliced ≡ Ok n) (piece : piece_after u l (block_start b) (block_size b) r.payload ≡ v) where
          pub step-more : b.more ≡ true → step ≡ left (with_assembled s (assembly n b.size_exponent)) v (Continue reply)
          step-more more = goes_on (Ok (block.More n)) (is-taken (Ok n) body ∙ rw more) ∙ rw (met, piece)

          -- the body is complete, and Block2 follows
          pub step-body : b.more ≡ false → step ≡ onward away (with_assembled s (assembly 0 0)) v block2 (Some reply) (Handed reply (bytes_from home n))
          step-body last = goes_on (Ok (block.Body n)) (is-taken (Ok n) body ∙ rw last) ∙ rw (met, piece)

          pub step-last : b.more ≡ false → block2 ≡ None → step ≡ left (with_recorded (with_assembled s (assembly 0 0)) None) v (Handed reply (bytes_from home n))
          step-last last alone =
              step-body last ∙ onward-absent away (with_assembled s (assembly 0 0)) v block2 (Some reply) (Handed reply (bytes_from home n)) alone ∙ rw alone

  -- ---- the mode

  -- the mode has nothing to say of block b: neither check is against it, and it meets all that is assembled
  pub record Unchecked (b : BlockValue) : Type 0 where
    pub good : (c.strict && bad_form b p) ≡ false
    pub next : (c.strict && not_next s.assembled b) ≡ false
    pub all : length_met c.strict s.assembled b ≡ s.assembled.len

  module _ (b reply : BlockValue) (k : Unchecked b) where
    met-same : length_met c.strict s.assembled b ≡ length_met false s.assembled b
    met-same = k.all ∙ sym (meets-all false s.assembled b (λ e. absurd (false≢true e)))

    taken-same : taken c s.assembled b p ≡ taken (plainly c) s.assembled b p
    taken-same =
        taken_next c s.assembled b p k.good k.next
        ∙ ap (λ (l : ℕ). taken_as b.more (splice_of c.upload l (block_start b) (block_size b) p)) met-same
        ∙ sym (taken_next (plainly c) s.assembled b p refl refl)

    piece-same : (t : Result Taken Refusal) → piece_taken c s.assembled u b r.payload t ≡ piece_taken (plainly c) s.assembled u b r.payload t
    piece-same (Err n) = refl
    piece-same (Ok (block.More n)) = rw met-same
    piece-same (Ok (block.Body n)) = rw met-same

    given-same : block1_given c home away s u block2 r.payload b reply ≡ block1_given (plainly c) home away s u block2 r.payload b reply
    unfolding block1_given
    given-same =
        let t : Result Taken Refusal = taken (plainly c) s.assembled b p in
        rw taken-same (ap (λ (v : List ℕ). on_taken home away s v block2 b.size_exponent reply t) (piece-same t))

  on_same : (block1 : Option BlockValue) (n : Result (Option BlockValue) Refusal) → ((b : BlockValue) → block1 ≡ Some b → Unchecked b)
      → on_negotiated c home away s u block2 r.payload block1 n ≡ on_negotiated (plainly c) home away s u block2 r.payload block1 n
  unfolding on_negotiated
  on_same block1 (Err n) unchecked = refl
  on_same block1 (Ok None) unchecked = refl
  on_same None (Ok (Some reply)) unchecked = refl
  on_same (Some b) (Ok (Some reply)) unchecked = given-same b reply (unchecked b refl)

  -- then the step is plain mode's
  pub step-plainly : (q : Request) → SaysTheSame c r q → (OnlyStrictMakes c (request_block c r.block1) r.bare → ⊥)
      → ((b : BlockValue) → request_block c r.block1 ≡ Some b → Unchecked b) → step ≡ step_request (plainly c) home away s u q
  unfolding step_request
  step-plainly q same made unchecked =
      rw (same.block1, same.block2, same.bare, same.payload, ← agreed-plainly c (request_block c r.block1) r.bare p made)
      (on_same (request_block c r.block1) (request_agrees c r) unchecked)

-- ---- a response's step

module _ (c : Config) (s : BlockState) (d : List ℕ) (r : Response) where
  pub response-unagreed : r.own ≡ false → (n : Refusal) → negotiated c (recorded_block s.recorded) r.bare (length r.payload) ≡ Err n
      → step_response c s d r ≡ left s d (Refused n)
  unfolding step_response on_reply
  response-unagreed own n e = rw (own, e)

  chunk-same : (ch : Result Chunk Refusal) → chunked c s d r.head r.payload ch ≡ chunked (plainly c) s d r.head r.payload ch
  unfolding chunked
  chunk-same (Err n) = refl
  chunk-same (Ok k) = refl

  reply-same : (n : Result (Option BlockValue) Refusal) → on_reply c s d r.head r.payload n ≡ on_reply (plainly c) s d r.head r.payload n
  unfolding on_reply
  reply-same (Err n) = refl
  reply-same (Ok None) = refl
  reply-same (Ok (Some b)) = chunk-same _

  -- and so for it
  pub response-plainly : (r.own ≡ false → OnlyStrictMakes c (recorded_block s.recorded) r.bare → ⊥) → step_response c s d r ≡ step_response (plainly c) s d r
  unfolding step_response
  response-plainly made =
      by_cases r.own (λ own. rw own)
      (λ other. rw (other, ← agreed-plainly c (recorded_block s.recorded) r.bare (length r.payload) (made other)) (reply-same _))
