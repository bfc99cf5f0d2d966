-- IN STRICT MODE, WHAT IS HANDED ON IS WHAT WAS TAKEN. Assumes nothing.
use Rattle.std.specs.Prelude.{Some}
use Prim.Native.Nat.{ℕ, ◌+◌, ◌*◌, ◌≤◌, ◌<◌}
use mathlib.Core.Bool.{true, cond}
use mathlib.Core.Path.{◌≡◌, refl, sym, ◌∙◌, ap, subst}
use mathlib.Core.Logic.{◌⊎◌, inl, inr, ⊎_elim}
use mathlib.Core.List.{List, [], ◌∷◌, ◌++◌}
use native.Mathlib.Omega.{arith}
use lib.ListN.{length, take}
use lib.Seq.{length-take-le}
use lib.Dec.{eqb}
use borrow.Author.Tests.{leb-true, eqb-true, eq-eqb}
use Rattle.refusal.specs.declared.Refusal.{Refusal}
use Rattle.pieces.specs.Memory.{piece_of, put_piece}
use Rattle.pieces.proofs.Memory.{piece-order, length-piece, length-put, piece-put-same, piece-put-other}
use Rattle.pieces.proofs.Tests.{ands, by_cases, clash-of}
use Rattle.splicing.specs.Splice.{spliced_length}
use Rattle.block_value.specs.Value.{block_size, block_start}
use Rattle.block_value.specs.declared.BlockValue.{BlockValue}
use Rattle.config.specs.declared.Config.{Config}
use Rattle.block_state.specs.declared.Assembled.{Assembled}
use Rattle.block_state.specs.declared.BlockState.{BlockState}
use Rattle.block_state.specs.declared.Part.{Part}
use Rattle.block_state.specs.declared.Answer.{Answer}
use Rattle.block_state.specs.declared.Answer.TheVariants.{Continue, TooLarge, Handed, Pass, Served, Plain, Whole, First, Refused}
use Rattle.block_state.specs.Message.{Request, What, request, response, WhatBytes}
use Rattle.block_state.specs.State.{assembled_ok}
use Rattle.block_state.proofs.Fits.{StateFits}
use Rattle.block_state.specs.Step.{Left, bytes_from}
use Rattle.request_block1.specs.Block1.{length_met}
use Rattle.request_step.specs.Step.{step_request}
use Rattle.request_step.proofs.StepKeeps.{request-keeps}
use Rattle.response_step.specs.Step.{step_response}
use Rattle.keys.specs.Keys.{Name, same}
use Rattle.keys.proofs.Keys.{same_refl}
use Rattle.entries.specs.declared.Entry.{Entry}
use Rattle.block_table.specs.Table.{at}
use Rattle.places.proofs.Put.{opened-fits}
use Rattle.call.specs.Call.{World, Call, Done, call_at, row_of, within_limits, call}
use Rattle.call.proofs.Frame.{WorldFits, key-within, call_fits}
use Rattle.answer_sources.specs.Parts.{part_of, body_of}
use Rattle.one_call.specs.Handler.{Handler}
use Rattle.one_call.proofs.Checks.{passed-next, first-starts, starts_first, meets-all, meets-afresh}
use Rattle.one_call.proofs.Outcomes.{place_of, opened_of, TookBlock, spliced-by, none, took, Outcome, refused, past, too_large, continued, onwards, serves, outcome, storing-assembled}
use Rattle.one_call.proofs.Outcomes.{early-or-placed, cond_same}
use Rattle.demands.specs.Demand3.{payload_of, after, AllBytes}
use Rattle.demands.proofs.Runs.{all-front, all-behind, fresh-entry, fresh-fits, after-fits}
use Rattle.demands.proofs.Push.{shown-part}
use Rattle.demands.proofs.OwnStep.{held_after, appended, appended-length}
use Rattle.many_calls.specs.Uploads.{joined_by, taken_by, taken_on, all_taken, HandsWhatWasTaken}
use Rattle.many_calls.proofs.Known.{Known, opened-known, put-known}

-- ---- a block that was taken, in strict mode

-- nothing is assembled, or these bytes are
abbrev Has : Assembled → List ℕ → List ℕ → Type 0
Has a u old = (a.len ≡ 0) ⊎ (take a.len u ≡ old)

module _ (c : Config) (strict : c.strict ≡ true) (home away : ℕ) (s : BlockState) (u : List ℕ) (r : Request) (old : List ℕ)
    (inside : s.assembled.len ≤ length u) (has : Has s.assembled u old) where
  abbrev p : ℕ
  p = length r.payload

  -- from l assembled bytes, a block that starts there leaves them and its payload
  goes-behind : (b : BlockValue) (l n : ℕ) → length_met c.strict s.assembled b ≡ l → block_start b ≡ l → l ≤ length u
      → n ≡ spliced_length (length_met c.strict s.assembled b) (block_start b) (block_size b) p
      → take n (spliced-by c home away s u r b) ≡ take l u ++ r.payload
  goes-behind b l n m start h e =
      let bytes : List ℕ = take l u in
      let long : length bytes ≡ l = length-take-le l u h in
      let met : length_met c.strict s.assembled b ≡ length bytes = m ∙ sym long in
      let starts : block_start b ≡ length bytes = start ∙ sym long in
      let size : n ≡ length (bytes ++ r.payload) = e ∙ rw (met, starts) (appended-length bytes (block_size b) r.payload) in
      let piece = appended u bytes (block_size b) r.payload (ap (λ (i : ℕ). take i u) long) in
      rw (met, starts, piece, size) (held_after u (bytes ++ r.payload))

  -- block 0 leaves its payload; any other starts at the assembled length, and leaves the old bytes and its payload
  grown : (b reply : BlockValue) (n : ℕ) → TookBlock c home away s u r b reply n → take n (spliced-by c home away s u r b) ≡ joined_by (Some b) old r.payload
  grown b reply n k =
      by_cases (eqb b.num 0)
      (λ y.
      let first : b.num ≡ 0 = eqb-true b.num 0 y in
      let met = meets-afresh c.strict s.assembled b first (λ plain. absurd (clash-of c.strict strict plain)) in
      rw y (goes-behind b 0 n met (first-starts b first) (omega arith) k.long))
      (λ o.
      let len : ℕ = s.assembled.len in
      let other : b.num ≡ 0 → ⊥ = λ e. clash-of (eqb b.num 0) (eq-eqb b.num 0 e) o in
      let start : block_start b ≡ len = (passed-next s.assembled b other (rw strict at k.next)).0 in
      let met = meets-all c.strict s.assembled b (λ _ e. absurd (other e)) in
      let held : take len u ≡ old = ⊎_elim (λ (z : len ≡ 0). absurd (other (starts_first b (start ∙ z)))) (λ e. e) has in
      rw o (goes-behind b len n met start inside k.long ∙ ap (λ (l : List ℕ). l ++ r.payload) held))

  -- so is the entry once its step is done
  keeps : (g : Left) → Outcome c home away s u r g → Has g.state.assembled g.piece (taken_by c (request r) g.answer old)
  keeps g (refused n why) = has
  keeps g (past t v _ _ _ x n none y e is) = rw y has
  keeps g (past t v _ _ _ x n (took b reply m k) y e is) = inl (rw y)
  keeps g (too_large reply e) = has
  keeps g (continued t b reply n k y e) = inr (rw (y, k.given) (grown b reply n k))
  keeps g (onwards t v _ _ _ none y e) = rw y has
  keeps g (onwards t v _ _ _ (took b reply n k) y e) = inl (rw y)
  keeps g (serves t v _ _ _ x y from to none l held asks is e) = rw l has
  keeps g (serves t v _ _ _ x y from to (took b reply n k) l held asks is e) = inl (rw l)

  -- and a body that is handed on is what was taken
  abbrev Shows : Left → Answer → Type 0
  Shows g (Handed b body) = (n : ℕ) × (n ≤ c.upload) × (body ≡ bytes_from home n) × (take n g.piece ≡ taken_by c (request r) (Handed b body) old)
  Shows g (Continue b) = Unit {0}
  Shows g (TooLarge b) = Unit {0}
  Shows g Pass = Unit {0}
  Shows g (Served s) = Unit {0}
  Shows g Plain = Unit {0}
  Shows g (Whole b chunk) = Unit {0}
  Shows g (First b chunk) = Unit {0}
  Shows g (Refused n) = Unit {0}

  shows : (g : Left) → Outcome c home away s u r g → Shows g g.answer
  shows g (refused n why) = tt
  shows g (past t v _ _ _ x n k y e is) = tt
  shows g (too_large reply e) = tt
  shows g (continued t b reply n k y e) = tt
  shows g (onwards t v _ _ _ none y e) = tt
  shows g (onwards t v _ _ _ (took b reply n k) y e) = (n, k.fits, refl, rw k.given (grown b reply n k))
  shows g (serves t v _ _ _ x y from to k l held asks is e) = tt

-- ---- what the table has assembled for the key is what was taken

abbrev Taken : Config → List ℕ → List ℕ → ℕ → BlockState → Type 0
Taken c mem old i s = Has s.assembled (piece_of c.upload i mem) old

abbrev AllHas : Config → World → Name → List ℕ → Type 0
AllHas c w k old = Known w k (Taken c w.upload old)

module _ (c : Config) (strict : c.strict ≡ true) (w : World) (q : Call) (k : Name) (old : List ℕ) (f : WorldFits c w) (bytes : WhatBytes q.what) (known : AllHas c w k old) where
  abbrev here : ℕ
  here = place_of c w q

  abbrev e : Entry
  e = opened_of c w q

  abbrev piece : List ℕ
  piece = piece_of c.upload here w.upload

  abbrev before : ℕ → BlockState → Type 0
  before = Taken c w.upload old

  -- the entry that the call starts from
  opened-has : here < 16 → same k q.key ≡ true → Has e.state.assembled piece old
  opened-has b y = opened-known c w q k f before known b y (inl refl)

  module _ (ok : within_limits c w q ≡ true) (later : w.table.clock ≤ q.time) (b : here < 16) where
    in_memory : here * c.upload + c.upload ≤ length w.upload
    in_memory = omega (arith, f.upload, piece-order here 16 c.upload b)

    piece-long : length piece ≡ c.upload
    piece-long = length-piece c.upload w.upload here in_memory

    fits-here : StateFits c e.state
    fits-here = (opened-fits c w.table q.time f.table f.sixteen later q.key (key-within c w q ok) b).state

    inside : e.state.assembled.len ≤ length piece
    unfolding assembled_ok
    inside = let h = fits-here.assembled in omega (arith, piece-long, leb-true e.state.assembled.len c.upload (search ands))

    -- what is known once the call has left this memory and this answer
    abbrev afterwards : What → List ℕ → Answer → ℕ → BlockState → Type 0
    afterwards x mem a = Taken c mem (cond (same k q.key) (taken_by c x a old) old)

    placed : (x : What) → WhatBytes x → let d = call_at c w q.time (row_of c w q) here e x in Known d.world k (afterwards x d.world.upload d.answer)
    unfolding call_at
    -- a request adds what it takes, or takes nothing
    placed (request r) hb =
        let home : ℕ = here * c.upload in
        let away : ℕ = here * c.response in
        let g : Left = step_request c home away e.state piece r in
        let full : length g.piece ≡ c.upload = (request-keeps c home away e.state piece r hb.0 hb.1 fits-here piece-long).piece in
        let mem : List ℕ = put_piece c.upload here g.piece w.upload in
        let put : piece_of c.upload here mem ≡ g.piece = piece-put-same c.upload w.upload here in_memory g.piece full in
        put-known c w q k f before known (afterwards (request r) mem g.answer) g.state b
        (λ y. rw (y, put) (keeps c strict home away e.state piece r old inside (opened-has b y) g (outcome c home away e.state piece r)))
        (λ n j t ne has. rw (n, piece-put-other c.upload w.upload here in_memory g.piece full j (λ (u : here ≡ j). ne (sym u))) has)
    -- a response leaves what is assembled
    placed (response r) hb =
        let d : List ℕ = piece_of c.response here w.response in
        let same-so = storing-assembled c e.state d r in
        rw (cond_same (same k q.key) old)
        (put-known c w q k f before known before (step_response c e.state d r).state b (λ y. rw same-so (opened-has b y)) (λ n j t ne has. has))

  refused-taken : (n : Refusal) → taken_on c k old q (Refused n) ≡ old
  refused-taken n = as_it_was q.what
    where
      as_it_was : (x : What) → cond (same k q.key) (taken_by c x (Refused n) old) old ≡ old
      as_it_was (request r) = cond_same (same k q.key) old
      as_it_was (response r) = cond_same (same k q.key) old

  known-call : AllHas c (call c w q).world k (taken_on c k old q (call c w q).answer)
  known-call =
      early-or-placed (λ (d : Done). AllHas c d.world k (taken_on c k old q d.answer)) c w q
      (λ n h. subst (AllHas c w k) (sym (refused-taken n)) known) (λ ok later b. placed ok later b q.what bytes)

-- ---- runs

known-run : (c : Config) → c.strict ≡ true → (k : Name) (calls : List Call) (w : World) (old : List ℕ) → WorldFits c w → AllBytes calls → AllHas c w k old
    → AllHas c (after call c w calls) k (all_taken call c w k old calls)
known-run c strict k [] w old f ab known = known
known-run c strict k (q ∷ calls) w old f ab known =
    known-run c strict k calls (call c w q).world (taken_on c k old q (call c w q).answer) (call_fits c w q ab.0 f) ab.1 (known-call c strict w q k old f ab.0 known)

taken-cut : (h : Handler) (c : Config) (k : Name) (a : List Call) (q : Call) (w : World) (old : List ℕ)
    → all_taken h c w k old (a ++ (q ∷ [])) ≡ taken_on c k (all_taken h c w k old a) q (h c (after h c w a) q).answer
taken-cut h c k [] q w old = refl
taken-cut h c k (p ∷ a) q w old = taken-cut h c k a q (h c w p).world (taken_on c k old p (h c w p).answer)

-- ---- the call that hands on

handed-body : (c : Config) → c.strict ≡ true → (w : World) (q : Call) (old : List ℕ) (r : Request) (b : BlockValue) (body : Part) → WorldFits c w → WhatBytes (request r)
    → AllHas c w q.key old → q.what ≡ request r → (call c w q).answer ≡ Handed b body
    → body_of (call c w q).answer r.payload (call c w q).world.upload ≡ taken_by c (request r) (call c w q).answer old
unfolding call_at
handed-body c strict w q old r b body f bytes known er =
    early-or-placed (λ (d : Done). d.answer ≡ Handed b body → body_of d.answer r.payload d.world.upload ≡ taken_by c (request r) d.answer old) c w q
    (λ n h e. let z : ◌≡◌ {A = ℕ} 0 1 = cc in absurd (omega arith))
    (λ ok later i16.
    rw er (λ e.
    let i : ℕ = place_of c w q in
    let s : BlockState = (opened_of c w q).state in
    let u : List ℕ = piece_of c.upload i w.upload in
    let g : Left = step_request c (i * c.upload) (i * c.response) s u r in
    let hb : WhatBytes q.what = rw er bytes in
    let has = opened-has c strict w q q.key old f hb known i16 (same_refl q.key) in
    let in-piece = inside c strict w q q.key old f hb known ok later i16 in
    let long = piece-long c strict w q q.key old f hb known ok later i16 in
    let fit = fits-here c strict w q q.key old f hb known ok later i16 in
    let room = in_memory c strict w q q.key old f hb known ok later i16 in
    let k : Shows c strict (i * c.upload) (i * c.response) s u r old in-piece has g (Handed b body) =
    subst (Shows c strict (i * c.upload) (i * c.response) s u r old in-piece has g) e
    (shows c strict (i * c.upload) (i * c.response) s u r old in-piece has g (outcome c (i * c.upload) (i * c.response) s u r)) in
    let full : length g.piece ≡ c.upload = (request-keeps c (i * c.upload) (i * c.response) s u r bytes.0 bytes.1 fit long).piece in
    let mem : List ℕ = put_piece c.upload i g.piece w.upload in
    let put : piece_of c.upload i mem ≡ g.piece = piece-put-same c.upload w.upload i room g.piece full in
    let inside-mem : i * c.upload + c.upload ≤ length mem = rw (length-put c.upload w.upload i room g.piece full) room in
    ap (λ (a : Answer). body_of a r.payload mem) e ∙ ap (part_of mem) k.2 ∙ shown-part mem c.upload i k.0 inside-mem k.1
    ∙ ap (take k.0) put ∙ k.3 ∙ ap (λ (a : Answer). taken_by c (request r) a old) (sym e)))

-- WHAT IS HANDED ON IS WHAT WAS TAKEN
pub hands-what-was-taken : HandsWhatWasTaken call
unfolding HandsWhatWasTaken
hands-what-was-taken c w calls q r b body strict fresh ab er e =
    let f : WorldFits c w = fresh-fits c w fresh in
    let before : AllBytes calls = all-front _ calls (q ∷ []) ab in
    let bytes : WhatBytes (request r) = rw er at (all-behind _ calls (q ∷ []) ab).0 in
    let known : AllHas c w q.key [] = λ i i16 h. inl (rw (fresh-entry w fresh.table i i16)) in
    let old : List ℕ = all_taken call c w q.key [] calls in
    let d : Done = call c (after call c w calls) q in
    rw (taken-cut call c q.key calls q w [], same_refl q.key)
    (ap (λ (x : What). body_of d.answer (payload_of x) d.world.upload) er
    ∙ handed-body c strict (after call c w calls) q old r b body (after-fits c calls w f before) bytes (known-run c strict q.key calls w [] f before known) er e
    ∙ ap (λ (x : What). taken_by c x d.answer old) (sym er))
