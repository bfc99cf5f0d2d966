-- STRICT MODE SAYS NO, AND YES. Assumes nothing.
use Rattle.refusal.specs.Numbers.{refusal_number}
use Rattle.std.specs.Prelude.{Option, Some, None, Ok}
use Prim.Native.Nat.{ℕ, ◌+◌, ◌*◌, ◌≤◌, ◌<◌}
use mathlib.Core.Bool.{true, false, false≢true, ◌&&◌}
use mathlib.Core.Path.{◌≡◌, refl, ◌∙◌, ap}
use mathlib.Core.Logic.{◌⊎◌, inl, inr, ⊎_elim}
use mathlib.Core.List.{List}
use native.Mathlib.Omega.{arith}
use lib.ListN.{length}
use lib.Dec.{eqb}
use borrow.Author.Tests.{eqb-true, eqb-false, ne_eqb}
use Rattle.refusal.specs.declared.Refusal.{Refusal}
use Rattle.refusal.specs.declared.Refusal.TheVariants.{NotNext, BadForm, PastTheEnd, Jump, NoRoom}
use Rattle.pieces.specs.Memory.{piece_of}
use Rattle.pieces.proofs.Tests.{and_left, and_right, by_cases, refute}
use Rattle.splicing.specs.Splice.{spliced_length, splice_of, piece_after}
use Rattle.splicing.proofs.Splicing as splicing
use Rattle.block_value.specs.Value.{block_size, block_start}
use Rattle.block_value.proofs.Laws.{size-least, size-most}
use Rattle.block_option.specs.Option.{read_of}
use Rattle.block_option.proofs.Laws.{read-exponent}
use Rattle.block_value.specs.declared.BlockValue.{BlockValue}
use Rattle.negotiation.specs.Negotiation.{request_block}
use Rattle.config.specs.declared.Config.{Config}
use Rattle.block_state.specs.declared.Assembled.{Assembled}
use Rattle.block_state.specs.declared.BlockState.{BlockState}
use Rattle.block_state.specs.declared.Part.{Part}
use Rattle.block_state.specs.declared.Answer.{Answer}
use Rattle.block_state.specs.declared.Answer.TheVariants.{Continue, Handed, Refused}
use Rattle.block_state.specs.Message.{Request, Response, request, response}
use Rattle.block_state.specs.State.{assembly, with_assembled, assembled_ok, cached_ok, state_ok}
use Rattle.block_state.specs.Step.{Left, bytes_from}
use Rattle.request_block2.specs.Block2.{onward}
use Rattle.request_block2.proofs.Serving.{onward-assembled, onward-other}
use Rattle.request_step.specs.Step.{step_request}
use Rattle.request_block1.specs.Block1.{bad_form, not_next, length_met}
use Rattle.entries.specs.declared.Entry.{Entry}
use Rattle.entries.specs.Entries.{entry_ok}
use Rattle.block_table.specs.Table.{at, table_ok}
use Rattle.judge.specs.Limits.{config_ok, memories_ok}
use Rattle.block_table.proofs.Row.{at_set_same}
use Rattle.key_place.specs.Place.{place}
use Rattle.places.specs.Places.{opened}
use Rattle.block_table.proofs.TableFits.{row-length}
use Rattle.call.proofs.Frame.{world-fits}
use Rattle.call.specs.Call.{World, Call, call_at, row_of, what_ok, within_limits, call}
use Rattle.pairing.proofs.Pairing.{refusal-number}
use Rattle.one_call.specs.Agreed.{recorded_for, request_agrees}
use Rattle.one_call.specs.Touch.{RefusesTo}
use Rattle.one_call.specs.Strict.{took_block, assembled_for, RightlyTaken, BadlyFormed, Misplaced, PassesFive, plainly, SaysTheSame, saying, OnlyStrictMakes, Fine, StrictSaysNo}
use Rattle.one_call.specs.Strict.{Takable, left_assembled, StrictSaysYes}
use Rattle.one_call.proofs.Checks.{and_none, bad-is, bad-as, bad-not, not-bad, passed-next, misplaced-is, misplaced-as, meets-all, meets-start}
use Rattle.one_call.proofs.Step.{step-bad, step-astray, step-more, step-body, Unchecked, step-plainly, response-plainly}
use Rattle.one_call.proofs.Outcomes.{opened_of, TookBlock, Why, unagreed, badly, astray, unspliced, Outcome, refused, past, too_large, continued, onwards, serves, none, took, answered}
use Rattle.one_call.proofs.Touch.{made, refused-touches}
use Rattle.one_call.proofs.Refusals.{same_number, of-refusal}

-- ---- what the two tests say

good-is : (c : Config) (l : Assembled) (r : Request) (b : BlockValue) → request_block c r.block1 ≡ Some b → b.size_exponent ≤ 7
    → bad_form b (length r.payload) ≡ false → not_next l b ≡ false → RightlyTaken c l r b
good-is c l r b given e7 good passed =
    let p : ℕ = length r.payload in
    let well = not-bad b p good in
    record {
      given = given;
      exponent = six (λ e. well (inl e));
      short = at_most (λ h. well (inr (inl h)));
      full = λ more. eqb-true p (block_size b) (by_cases (eqb p (block_size b)) (λ y. y) (λ n. absurd (well (inr (inr (more, eqb-false p (block_size b) n))))));
      next = λ other. passed-next l b other passed;
    }
  where
    six : (b.size_exponent ≡ 7 → ⊥) → b.size_exponent ≤ 6
    six ne = omega (arith, ne)

    at_most : (block_size b < length r.payload → ⊥) → length r.payload ≤ block_size b
    at_most over = omega (arith, over)

-- an exponent that was read is three bits
exponent-read : (c : Config) (o : Option (List ℕ)) (b : BlockValue) → request_block c o ≡ Some b → b.size_exponent ≤ 7
unfolding request_block
exponent-read c None b e = let z : ◌≡◌ {A = ℕ} 0 1 = cc in absurd (omega arith)
exponent-read c (Some bytes) b e = read-exponent c.strict bytes b e

-- ---- a block that was taken

taken_as_lem : (c : Config) (home away : ℕ) (s : BlockState) (u : List ℕ) (r : Request) (b reply : BlockValue) (n : ℕ) → c.strict ≡ true → TookBlock c home away s u r b reply n
    → (x : BlockValue) × RightlyTaken c s.assembled r x
taken_as_lem c home away s u r b reply n strict k =
    (b, good-is c s.assembled r b k.given (exponent-read c r.block1 b k.given) (rw strict at k.form) (rw strict at k.next))

step-took : (c : Config) (home away : ℕ) (s : BlockState) (u : List ℕ) (r : Request) (g : Left) → c.strict ≡ true → Outcome c home away s u r g → took_block g.answer ≡ true
    → (b : BlockValue) × RightlyTaken c s.assembled r b
step-took c home away s u r g strict (refused n why) h = absurd (false≢true h)
step-took c home away s u r g strict (past t v block1 a z x n k l e is) h = absurd (false≢true h)
step-took c home away s u r g strict (too_large reply e) h = absurd (false≢true h)
step-took c home away s u r g strict (continued t b reply n k l e) h = taken_as_lem c home away s u r b reply n strict k
step-took c home away s u r g strict (onwards t v _ _ _ none l e) h = absurd (false≢true h)
step-took c home away s u r g strict (onwards t v _ _ _ (took b reply n k) l e) h = taken_as_lem c home away s u r b reply n strict k
step-took c home away s u r g strict (serves t v _ _ _ x y from to none l held asks is e) h = absurd (false≢true h)
step-took c home away s u r g strict (serves t v _ _ _ x y from to (took b reply n k) l held asks is e) h = taken_as_lem c home away s u r b reply n strict k

taken-rightly : (c : Config) (w : World) (q : Call) (r : Request) → c.strict ≡ true → q.what ≡ request r → took_block (call c w q).answer ≡ true
    → (b : BlockValue) × RightlyTaken c (assembled_for c w q) r b
taken-rightly c w q r strict e =
    answered (λ (a : Answer). took_block a ≡ true → (b : BlockValue) × RightlyTaken c (assembled_for c w q) r b) c w q (λ n _ h. absurd (false≢true h)) r e
    (λ home away u g o. step-took c home away _ u r g strict o)

-- ---- a block that is refused

module _ (c : Config) (w : World) (q : Call) (r : Request) (b : BlockValue) (strict : c.strict ≡ true) (g : PassesFive c w q r b) where
  reached : request_agrees c r ≡ Ok (Some g.reply)
  reached = rw g.given g.agreed

  refuses-ten : BadlyFormed b (length r.payload) → RefusesTo BadForm call c w q
  refuses-ten bad =
      refused-touches c w q g.placed r g.asks BadForm (step-bad c _ _ _ _ r b g.reply g.given reached (rw (strict, bad-is b (length r.payload) bad)))

  refuses-nine : (BadlyFormed b (length r.payload) → ⊥) → Misplaced (assembled_for c w q) b → RefusesTo NotNext call c w q
  refuses-nine well m =
      let good : (c.strict && bad_form b (length r.payload)) ≡ false = and_none c.strict _ (bad-not b (length r.payload) well) in
      refused-touches c w q g.placed r g.asks NotNext
      (step-astray c _ _ _ _ r b g.reply g.given reached good (rw (strict, misplaced-is (assembled_for c w q) b m)))

-- ---- 10 and 9 only then

module _ (c : Config) (w : World) (q : Call) (r : Request) (asks : q.what ≡ request r) where
  abbrev l : Assembled
  l = assembled_for c w q

  abbrev Ten : Type 0
  Ten = (c.strict ≡ true) × (b : BlockValue) × (request_block c r.block1 ≡ Some b) × BadlyFormed b (length r.payload)

  abbrev Nine : Type 0
  Nine = (c.strict ≡ true) × (b : BlockValue) × (request_block c r.block1 ≡ Some b) × (BadlyFormed b (length r.payload) → ⊥) × Misplaced l b

  module _ (home away : ℕ) (s : BlockState) (u : List ℕ) (its : s.assembled ≡ l) where
    why-ten : (n : Refusal) → Why c home away s u r n → refusal_number n ≡ 10 → Ten
    why-ten n (unagreed m e) z = absurd (⊎_elim (λ (y : refusal_number m ≡ 4). omega arith) (λ (y : refusal_number m ≡ 5). omega arith) (refusal-number c _ _ _ m e))
    why-ten n (badly b reply given e y) z = (and_left _ _ y, b, given, bad-as b (length r.payload) (and_right c.strict _ y))
    why-ten n (astray b reply given e f y) z = absurd (omega arith)
    why-ten n (unspliced m e) z =
        absurd (⊎_elim (λ y. let k : refusal_number m ≡ 6 = ap refusal_number y in omega arith) (λ y. let k : refusal_number m ≡ 7 = ap refusal_number y in omega arith) e)

    why-nine : (n : Refusal) → Why c home away s u r n → refusal_number n ≡ 9 → Nine
    why-nine n (unagreed m e) z = absurd (⊎_elim (λ (y : refusal_number m ≡ 4). omega arith) (λ (y : refusal_number m ≡ 5). omega arith) (refusal-number c _ _ _ m e))
    why-nine n (badly b reply given e y) z = absurd (omega arith)
    why-nine n (astray b reply given e f y) z =
        let strict : c.strict ≡ true = and_left _ _ y in
        let well : bad_form b (length r.payload) ≡ false = rw strict at f in
        (strict, b, given, not-bad b (length r.payload) well, rw its at (misplaced-as s.assembled b (and_right c.strict _ y)))
    why-nine n (unspliced m e) z =
        absurd (⊎_elim (λ y. let k : refusal_number m ≡ 6 = ap refusal_number y in omega arith) (λ y. let k : refusal_number m ≡ 7 = ap refusal_number y in omega arith) e)

    -- a step that is refused, and not with 8, has its reason
    reason : (P : Type 0) (n : Refusal) → (n ≡ PastTheEnd → ⊥) → ((m : Refusal) → Why c home away s u r m → m ≡ n → P) → (g : Left)
        → Outcome c home away s u r g → g.answer ≡ Refused n → P
    reason P n no8 why = of-refusal c home away s u r n (λ g. P) (λ m z k. why m k z) (λ m z y t v k. absurd (no8 y))

  ten-only : (call c w q).answer ≡ Refused BadForm → Ten
  ten-only =
      answered (λ (a : Answer). a ≡ Refused BadForm → Ten) c w q (λ n h e. let z = same_number n BadForm e in absurd (omega (arith, h.1))) r asks
      (λ home away u g o.
      let not_8 : BadForm ≡ PastTheEnd → ⊥ = λ e. let z : ◌≡◌ {A = ℕ} 10 8 = ap refusal_number e in omega arith in
      reason home away _ u refl Ten BadForm not_8 (λ m k z. why-ten home away _ u refl m k (ap refusal_number z)) g o)

  nine-only : (call c w q).answer ≡ Refused NotNext → Nine
  nine-only =
      answered (λ (a : Answer). a ≡ Refused NotNext → Nine) c w q (λ n h e. let z = same_number n NotNext e in absurd (omega (arith, h.1))) r asks
      (λ home away u g o.
      let not_8 : NotNext ≡ PastTheEnd → ⊥ = λ e. let z : ◌≡◌ {A = ℕ} 9 8 = ap refusal_number e in omega arith in
      reason home away _ u refl Nine NotNext not_8 (λ m k z. why-nine home away _ u refl m k (ap refusal_number z)) g o)

-- ---- strict mode says yes

module _ (c : Config) (w : World) (q : Call) (r : Request) (b : BlockValue) (strict : c.strict ≡ true) (t : Takable c w q r b) where
  abbrev here : ℕ
  here = place q.key (row_of c w q)

  abbrev state : BlockState
  state = (opened q.key (row_of c w q)).state

  abbrev piece : List ℕ
  piece = piece_of c.upload here w.upload

  abbrev start : ℕ
  start = block_start b

  abbrev p : ℕ
  p = length r.payload

  abbrev home : ℕ
  home = here * c.upload

  abbrev away : ℕ
  away = here * c.response

  abbrev then : List ℕ
  then = piece_after piece start start (block_size b) r.payload

  in_row : here < length (row_of c w q)
  in_row =
      let f = world-fits c w q t.five.placed.limits t.five.placed.sixteen in
      rw (row-length c w.table q.time f.table f.sixteen) t.five.placed.place

  -- the call answers what its step does, and stores what that leaves at the key's place
  called : (g : Left) → step_request c home away state piece r ≡ g
      → ((call c w q).answer ≡ g.answer) × ((at (call c w q).world.table.entries here).state.assembled ≡ g.state.assembled)
  unfolding call_at
  called g step =
      rw (made c w q t.five.placed, t.five.asks, step) (refl, ap (λ (e : Entry). e.state.assembled) (at_set_same (row_of c w q) here _ in_row))

  passed : not_next state.assembled b ≡ false
  passed = refute (not_next state.assembled b) (λ y. t.next (misplaced-as state.assembled b y))

  good : (c.strict && bad_form b p) ≡ false
  good = and_none c.strict _ (bad-not b p t.well)

  meets : length_met c.strict state.assembled b ≡ start
  meets = rw strict (meets-start state.assembled b passed)

  body : splice_of c.upload start start (block_size b) p ≡ Ok (start + p)
  body =
      let long : spliced_length start start (block_size b) p ≡ start + p = omega arith in
      splicing.taken c.upload start start (block_size b) p (omega (arith, size-most b.size_exponent)) (omega (arith, t.fits)) ∙ ap Ok long

  abbrev after : BlockState
  after = with_assembled state (assembly 0 0)

  takes-more : b.more ≡ true
      → ((call c w q).answer ≡ Continue t.five.reply) × (left_assembled call c w q ≡ record { len = start + block_size b; exponent = b.size_exponent })
  takes-more more =
      let full : p ≡ block_size b = (good-is c state.assembled r b t.five.given (exponent-read c r.block1 b t.five.given) (bad-not b p t.well) passed).full more in
      let done = called _
      (step-more c home away state piece r b t.five.reply t.five.given (reached c w q r b strict t.five) good (and_none c.strict _ passed) start meets
      (start + p) then body refl more) in
      (done.0, done.1 ∙ rw (ne_eqb (start + p) 0 (λ e. omega (arith, size-least b.size_exponent)), full))

  completes : b.more ≡ false
      → step_request c home away state piece r ≡ onward away after then (request_block c r.block2) (Some t.five.reply) (Handed t.five.reply (bytes_from home (start + p)))
  completes =
      step-body c home away state piece r b t.five.reply t.five.given (reached c w q r b strict t.five) good (and_none c.strict _ passed) start meets
      (start + p) then body refl

  ends_it : b.more ≡ false → left_assembled call c w q ≡ record { len = 0; exponent = 0 }
  ends_it last = (called _ (completes last)).1 ∙ onward-assembled away after then _ _ _

  takes-last : b.more ≡ false → (request_block c r.block2 ≡ None) ⊎ (state.cached.held ≡ false)
      → (x : Part) × ((call c w q).answer ≡ Handed t.five.reply x)
  takes-last last uncached = (bytes_from home (start + p), (called _ (completes last)).0 ∙ onward-other away after then _ _ _ uncached)

-- ---- all else is as in plain mode

unchecked : (c : Config) (home away : ℕ) (s : BlockState) (u : List ℕ) (r : Request) (b : BlockValue) → Fine s.assembled (length r.payload) b
    → Unchecked c home away s u r b
unchecked c home away s u r b f =
    let next : not_next s.assembled b ≡ false = refute (not_next s.assembled b) (λ y. f.next (misplaced-as s.assembled b y)) in
    record {
      good = and_none c.strict _ (bad-not b (length r.payload) f.well);
      next = and_none c.strict _ next;
      all = meets-all c.strict s.assembled b (λ _. f.afresh);
    }

-- the limits do not name the mode
limits-plainly : (c : Config) (w : World) (q : Call) → within_limits c w q ≡ within_limits (plainly c) w q
unfolding assembled_ok cached_ok state_ok entry_ok table_ok config_ok memories_ok within_limits
limits-plainly c w q = refl

-- nor the options
limits-same : (c : Config) (w : World) (q : Call) (r p : Request) → q.what ≡ request r → SaysTheSame c r p
    → within_limits (plainly c) w q ≡ within_limits (plainly c) w (saying q p)
unfolding within_limits what_ok
limits-same c w q r p e same = rw (e, same.bare, same.payload)

all-else : (c : Config) (w : World) (q : Call) (r p : Request) → q.what ≡ request r → SaysTheSame c r p
    → (OnlyStrictMakes c (request_block c r.block1) r.bare → ⊥)
    → ((b : BlockValue) → request_block c r.block1 ≡ Some b → Fine (assembled_for c w q) (length r.payload) b) → call c w q ≡ call (plainly c) w (saying q p)
unfolding call call_at
all-else c w q r p e same made f =
    rw (limits-plainly c w q, limits-same c w q r p e same, e, step-plainly c _ _ (opened_of c w q).state _ r p same made (λ b given. unchecked c _ _ _ _ r b (f b given)))

of-responses : (c : Config) (w : World) (q : Call) (r : Response) → q.what ≡ response r → (r.own ≡ false → OnlyStrictMakes c (recorded_for c w q) r.bare → ⊥)
    → call c w q ≡ call (plainly c) w q
unfolding call call_at
of-responses c w q r e made = rw (limits-plainly c w q, e, response-plainly c (opened_of c w q).state _ r made)

-- STRICT MODE SAYS NO
pub strict-says-no : StrictSaysNo call
strict-says-no =
    record {
      taken = taken-rightly;
      ten = refuses-ten;
      ten_only = ten-only;
      nine = refuses-nine;
      nine_only = nine-only;
      all_else = all-else;
      responses = of-responses;
    }

-- AND YES
pub strict-says-yes : StrictSaysYes call
strict-says-yes = record { more = takes-more; ends = ends_it; last = takes-last }
