-- A CHUNK SERVED IS THE PAGE'S. Assumes nothing.
use Rattle.std.specs.Prelude.{Option, Some, None, Ok}
use Prim.Native.Nat.{ℕ, ◌+◌, ◌-◌, ◌*◌, ◌≤◌, ◌<◌}
use mathlib.Core.Bool.{Bool, true, false, cond, false≢true}
use mathlib.Core.Path.{◌≡◌, refl, sym, ap, ◌∙◌, subst}
use mathlib.Core.List.{List, [], ◌∷◌, ◌++◌}
use native.Mathlib.Omega.{arith}
use lib.ListN.{length, set, take, drop, length-append}
use lib.Seq.{take-take, take_at, drop_at}
use Rattle.refusal.specs.declared.Refusal.{Refusal}
use Rattle.pieces.specs.Memory.{patch, part as bytes_in, piece_of, put_piece}
use Rattle.pieces.proofs.Memory.{piece-order, length-piece, length-patch, piece-put-same, piece-put-other, patch-self, take_part, drop-part}
use Rattle.block_value.specs.declared.BlockValue.{BlockValue}
use Rattle.negotiation.specs.Negotiation.{request_block}
use Rattle.chunks.specs.Chunk.{chunk_of, chunk_block, bytes_under}
use Rattle.config.specs.declared.Config.{Config}
use Rattle.block_state.specs.declared.Cached.{Cached}
use Rattle.block_state.specs.declared.BlockState.{BlockState}
use Rattle.block_state.specs.declared.Part.{Part}
use Rattle.block_state.specs.declared.Served as served
use Rattle.block_state.specs.declared.Answer.{Answer}
use Rattle.block_state.specs.declared.Answer.TheVariants.{Continue, TooLarge, Handed, Pass, Served, Plain, Whole, First, Refused}
use Rattle.block_state.specs.Message.{Request, Response, What, request, response}
use Rattle.block_state.specs.State.{kept_while}
use Rattle.block_state.specs.Step.{Left, left, bytes_from}
use Rattle.keys.specs.Keys.{Name, same}
use Rattle.keys.proofs.Keys.{same_refl}
use Rattle.entries.specs.declared.Entry.{Entry}
use Rattle.entries.specs.Entries.{in_use}
use Rattle.block_table.specs.Table.{at}
use Rattle.answer_sources.specs.Parts.{part_of, served_head, served_chunk}
use Rattle.answers.proofs.Served.{served-shows}
use Rattle.call.specs.Call.{World, Call, Done, call_at, row_of, call}
use Rattle.call.proofs.Frame.{WorldFits, call-cases, call_fits}
use Rattle.one_call.proofs.Agreed.{chunk-value}
use Rattle.one_call.proofs.Outcomes.{place_of, opened_of, cond_same, Unstored, plain, disagreed, beyond, crowded, whole as cut-whole, Storing, as_before, stores, storing, Outcome, refused}
use Rattle.one_call.proofs.Outcomes.{past, too_large, continued, onwards, serves, none as no-block1, took, outcome}
use Rattle.demands.specs.Demand3.{after, AllBytes}
use Rattle.demands.proofs.OwnStep.{held_after}
use Rattle.demands.proofs.Runs.{fresh-entry, fresh-fits, after-fits}
use Rattle.demands.proofs.Push.{shown-part}
use Rattle.many_calls.specs.Pages.{Page, is_first, stored_by, noted, last_stored, ShowsPage, ServesThePage}
use Rattle.many_calls.proofs.Known.{KnownIn, Known, opened-known, put-known}

-- ---- a request's step: the cache stays or goes

stays : (c : Config) (home away : ℕ) (s : BlockState) (u : List ℕ) (r : Request) (g : Left) → Outcome c home away s u r g → g.state.cached.held ≡ true → g.state.cached ≡ s.cached
stays c home away s u r g (refused n why) h = refl
stays c home away s u r g (past t v block1 a z x n k y e is) h = e
stays c home away s u r g (too_large reply e) h = refl
stays c home away s u r g (continued t b reply n k y e) h = e
stays c home away s u r g (onwards t v block1 a z k y e) h = e
stays c home away s u r g (serves t v block1 a z x y from to k l held asks is e) h = kept y.more e h
  where
    kept : (m : Bool) → t.cached ≡ kept_while m s.cached → t.cached.held ≡ true → t.cached ≡ s.cached
    kept true e h = e
    kept false e h = absurd (false≢true (sym (ap (λ (y : Cached). y.held) e) ∙ h))

-- ---- a request's step that serves

record ServedFrom (cached : Cached) (away : ℕ) (block2 : Option BlockValue) (b : BlockValue) (head part : Part) : Type 0 where
  held : cached.held ≡ true
  asked : BlockValue
  asks : block2 ≡ Some asked
  from : ℕ
  to : ℕ
  bytes : chunk_of asked cached.payload ≡ Ok (bytes_under b from to)
  its-head : head ≡ bytes_from away cached.head
  its-part : part ≡ record { from = away + cached.head + from; to = away + cached.head + to }

abbrev From : BlockState → ℕ → Option BlockValue → Answer → Type 0
From s away block2 (Continue b) = Unit {0}
From s away block2 (TooLarge b) = Unit {0}
From s away block2 (Handed b body) = Unit {0}
From s away block2 Pass = Unit {0}
From s away block2 (Served x) = ServedFrom s.cached away block2 x.block2 x.head x.chunk
From s away block2 Plain = Unit {0}
From s away block2 (Whole b part) = Unit {0}
From s away block2 (First b part) = Unit {0}
From s away block2 (Refused n) = Unit {0}

from-request : (c : Config) (home away : ℕ) (s : BlockState) (u : List ℕ) (r : Request) (g : Left) → Outcome c home away s u r g → From s away (request_block c r.block2) g.answer
from-request c home away s u r g (refused n why) = tt
from-request c home away s u r g (past t v block1 a z x n k y e is) = tt
from-request c home away s u r g (too_large reply e) = tt
from-request c home away s u r g (continued t b reply n k y e) = tt
from-request c home away s u r g (onwards t v _ _ _ no-block1 y e) = tt
from-request c home away s u r g (onwards t v _ _ _ (took b reply n k) y e) = tt
from-request c home away s u r g (serves t v block1 a z x y from to k l held asks is e) =
    record { held = held; asked = x; asks = asks; from = from; to = to; bytes = is; its-head = refl; its-part = refl }

-- ---- what the table caches for the key is the page

record Caches (c : Config) (mem : List ℕ) (i : ℕ) (y : Cached) (p : Option Page) : Type 0 where
  page : Page
  is : p ≡ Some page
  head : y.head ≡ length page.head
  payload : y.payload ≡ length page.payload
  bytes : take (length (page.head ++ page.payload)) (piece_of c.response i mem) ≡ page.head ++ page.payload
  room : length (page.head ++ page.payload) ≤ c.response

abbrev Paged : Config → List ℕ → Option Page → ℕ → BlockState → Type 0
Paged c mem p i s = s.cached.held ≡ true → Caches c mem i s.cached p

abbrev AllPaged : Config → World → Name → Option Page → Type 0
AllPaged c w k p = Known w k (Paged c w.response p)

caches-moved : (c : Config) (mem mem' : List ℕ) (i : ℕ) (y : Cached) (p : Option Page) → piece_of c.response i mem' ≡ piece_of c.response i mem
    → Caches c mem i y p → Caches c mem' i y p
caches-moved c mem mem' i y p e h =
    record { page = h.page; is = h.is; head = h.head; payload = h.payload; bytes = ap (take (length (h.page.head ++ h.page.payload))) e ∙ h.bytes; room = h.room }

piece-self : (u i : ℕ) (m : List ℕ) → i * u + u ≤ length m → put_piece u i (piece_of u i m) m ≡ m
unfolding piece_of put_piece
piece-self u i m h = patch-self m (i * u) u h

-- First is answered only if something is stored
unstored : (c : Config) (s : BlockState) (d : List ℕ) (r : Response) (a : Answer) → Unstored c s d r a → is_first a ≡ false
unstored c s d r a plain = refl
unstored c s d r a (disagreed n e) = refl
unstored c s d r a (beyond b n is) = refl
unstored c s d r a crowded = refl
unstored c s d r a (cut-whole y from to k) = refl

module _ (c : Config) (w : World) (q : Call) (k : Name) (p : Option Page) (f : WorldFits c w) (known : AllPaged c w k p) where
  abbrev here : ℕ
  here = place_of c w q

  abbrev e : Entry
  e = opened_of c w q

  abbrev piece : List ℕ
  piece = piece_of c.response here w.response

  abbrev before : ℕ → BlockState → Type 0
  before = Paged c w.response p

  -- the entry that the call starts from
  opened-paged : here < 16 → same k q.key ≡ true → before here e.state
  opened-paged b y = opened-known c w q k f before known b y (λ held. absurd (false≢true held))

  module _ (b : here < 16) where
    in_memory : here * c.response + c.response ≤ length w.response
    in_memory = omega (arith, f.response, piece-order here 16 c.response b)

    -- an entry put back with the cache that it had, or none
    put_back : (s : BlockState) → (s.cached.held ≡ true → s.cached ≡ e.state.cached) → KnownIn (set (row_of c w q) here (in_use e.key q.time s)) k before
    put_back s stays =
        put-known c w q k f before known before s b
        (λ y held.
        let z : s.cached ≡ e.state.cached = stays held in
        subst (λ (y : Cached). Caches c w.response here y p) (sym z) (opened-paged b y (sym (ap (λ (y : Cached). y.held) z) ∙ held)))
        (λ n j t ne paged. paged)

    stored-entry : (r : Response) (g : Left) → Storing c e.state piece r g
        → KnownIn (set (row_of c w q) here (in_use e.key q.time g.state)) k
        (Paged c (put_piece c.response here g.piece w.response) (cond (same k q.key) (stored_by (response r) g.answer p) p))
    stored-entry r g (as_before a answers) =
        let back : put_piece c.response here piece w.response ≡ w.response = piece-self c.response here w.response in_memory in
        let no-first : is_first a ≡ false = unstored c e.state piece r a answers in
        let none-new : cond (same k q.key) (stored_by (response r) a p) p ≡ p = rw no-first (cond_same (same k q.key) p) in
        rw (back, none-new) (put_back e.state (λ _. refl))
    stored-entry r g (stores t chunk from to cut unmoved ec room) =
        let page : Page = record { head = r.head; payload = r.payload } in
        let body : List ℕ = r.head ++ r.payload in
        let n : length body ≡ length r.head + length r.payload = length-append r.head r.payload in
        let long : length piece ≡ c.response = length-piece c.response w.response here in_memory in
        let full : length (patch piece 0 body) ≡ c.response = length-patch piece 0 body (omega arith) ∙ long in
        let mem : List ℕ = put_piece c.response here (patch piece 0 body) w.response in
        let put : piece_of c.response here mem ≡ patch piece 0 body = piece-put-same c.response w.response here in_memory (patch piece 0 body) full in
        put-known c w q k f before known (Paged c mem (cond (same k q.key) (Some page) p)) t b
        (λ y held.
        rw y
        (record {
          page = page;
          is = refl;
          head = ap (λ (y : Cached). y.head) ec;
          payload = ap (λ (y : Cached). y.payload) ec;
          bytes = ap (take (length body)) put ∙ held_after piece body;
          room = omega arith;
        }))
        (λ m j s ne paged held.
        rw m
        (caches-moved c w.response mem j s.cached p
        (piece-put-other c.response w.response here in_memory (patch piece 0 body) full j (λ (u : here ≡ j). ne (sym u))) (paged held)))

    placed : (x : What) → let d = call_at c w q.time (row_of c w q) here e x in AllPaged c d.world k (cond (same k q.key) (stored_by x d.answer p) p)
    unfolding call_at
    placed (request r) =
        let home : ℕ = here * c.upload in
        let away : ℕ = here * c.response in
        let u : List ℕ = piece_of c.upload here w.upload in
        rw (cond_same (same k q.key) p) (put_back _ (stays c home away e.state u r _ (outcome c home away e.state u r)))
    placed (response r) = stored-entry r _ (storing c e.state piece r)

  refused-noted : (n : Refusal) → noted k p q (Refused n) ≡ p
  refused-noted n = as_it_was q.what
    where
      as_it_was : (x : What) → cond (same k q.key) (stored_by x (Refused n) p) p ≡ p
      as_it_was (request r) = cond_same (same k q.key) p
      as_it_was (response r) = cond_same (same k q.key) p

  known-call : AllPaged c (call c w q).world k (noted k p q (call c w q).answer)
  known-call =
      call-cases (λ (d : Done). AllPaged c d.world k (noted k p q d.answer)) c w q
      (λ n. subst (AllPaged c w k) (sym (refused-noted n)) known) (λ named ok later b. placed b q.what)

-- ---- runs

known-run : (c : Config) (k : Name) (calls : List Call) (w : World) (p : Option Page) → WorldFits c w → AllBytes calls → AllPaged c w k p
    → AllPaged c (after call c w calls) k (last_stored call c w k p calls)
known-run c k [] w p f ab known = known
known-run c k (q ∷ calls) w p f ab known = known-run c k calls (call c w q).world (noted k p q (call c w q).answer) (call_fits c w q ab.0 f) ab.1 (known-call c w q k p f known)

-- ---- the call that serves

module _ (m head payload : List ℕ) (u i : ℕ) (inside : i * u + u ≤ length m) (room : length (head ++ payload) ≤ u)
    (bytes : take (length (head ++ payload)) (piece_of u i m) ≡ head ++ payload) where
  both-length : length (head ++ payload) ≡ length head + length payload
  both-length = length-append head payload

  whole : bytes_in m (i * u) (length (head ++ payload)) ≡ head ++ payload
  unfolding piece_of
  whole = sym (take_part m (i * u) u (length (head ++ payload)) room) ∙ bytes

  head-there : part_of m (bytes_from (i * u) (length head)) ≡ head
  head-there =
      shown-part m u i (length head) inside (omega (arith, both-length))
      ∙ sym (take-take (length head) (length (head ++ payload)) (piece_of u i m) (omega (arith, both-length)))
      ∙ ap (take (length head)) bytes ∙ take_at head payload (length head) refl

  payload-there : bytes_in m (i * u + length head) (length payload) ≡ payload
  payload-there =
      let left : length (head ++ payload) - length head ≡ length payload = omega (arith, both-length) in
      let cut = drop-part m (i * u) (length (head ++ payload)) (length head) (omega (arith, both-length)) (omega arith) in
      sym (rw left at cut) ∙ ap (drop (length head)) whole ∙ drop_at head payload (length head) refl

-- what is served of a page that is cached at i shows it
shows-page : (c : Config) (mem : List ℕ) (i : ℕ) (cached : Cached) (p : Option Page) (r : Request) (b : BlockValue) (head part : Part)
    → i * c.response + c.response ≤ length mem → ServedFrom cached (i * c.response) (request_block c r.block2) b head part → Caches c mem i cached p
    → ShowsPage c r b p (part_of mem head) (part_of mem part)
shows-page c mem i cached p r b head part inside g h =
    let away : ℕ = i * c.response in
    let n : length (h.page.head ++ h.page.payload) ≡ length h.page.head + length h.page.payload = length-append h.page.head h.page.payload in
    let shows-part =
    ap (part_of mem) g.its-part
    ∙ served-shows mem (away + cached.head) cached.payload g.asked b g.from g.to g.bytes (omega (arith, h.head, h.payload, h.room)) in
    let there : bytes_in mem (away + cached.head) cached.payload ≡ h.page.payload =
    rw (h.head, h.payload) (payload-there mem h.page.head h.page.payload c.response i inside h.room h.bytes) in
    record {
      page = h.page;
      last = h.is;
      asked = g.asked;
      asks = g.asks;
      value = chunk-value g.asked cached.payload b g.from g.to g.bytes ∙ ap (chunk_block g.asked) h.payload;
      its_head =
          ap (part_of mem) g.its-head ∙ ap (λ (l : ℕ). part_of mem (bytes_from away l)) h.head
          ∙ head-there mem h.page.head h.page.payload c.response i inside h.room h.bytes;
      its_chunk = rw (there, h.payload) at shows-part;
    }

served-page : (c : Config) (w : World) (q : Call) (p : Option Page) (r : Request) (x : served.Served)
    → WorldFits c w → AllPaged c w q.key p → q.what ≡ request r → (call c w q).answer ≡ Served x
    → ShowsPage c r x.block2 p (served_head (call c w q).answer (call c w q).world.response) (served_chunk (call c w q).answer (call c w q).world.response)
unfolding call_at
served-page c w q p r x f known er =
    call-cases (λ (d : Done). d.answer ≡ Served x
    → ShowsPage c r x.block2 p (served_head d.answer d.world.response) (served_chunk d.answer d.world.response)) c w q
    (λ n e. let z : ◌≡◌ {A = ℕ} 0 1 = cc in absurd (omega arith))
    (λ named ok later i16.
    rw er (λ e.
    let i : ℕ = place_of c w q in
    let s : BlockState = (opened_of c w q).state in
    let u : List ℕ = piece_of c.upload i w.upload in
    let away : ℕ = i * c.response in
    let inside : i * c.response + c.response ≤ length w.response = omega (arith, f.response, piece-order i 16 c.response i16) in
    let g : ServedFrom s.cached away (request_block c r.block2) x.block2 x.head x.chunk =
    subst (From s away (request_block c r.block2)) e (from-request c (i * c.upload) away s u r _ (outcome c (i * c.upload) away s u r)) in
    subst (λ (a : Answer). ShowsPage c r x.block2 p (served_head a w.response) (served_chunk a w.response)) (sym e)
    (shows-page c w.response i s.cached p r x.block2 x.head x.chunk inside g
    (opened-paged c w q q.key p f known i16 (same_refl q.key) g.held))))

-- A CHUNK SERVED IS THE PAGE'S
pub serves-the-page : ServesThePage call
unfolding ServesThePage
serves-the-page c w calls q r x fresh ab er e =
    let f : WorldFits c w = fresh-fits c w fresh in
    let known : AllPaged c w q.key None = λ i i16 h held. absurd (false≢true (rw (fresh-entry w fresh.table i i16) at held)) in
    served-page c (after call c w calls) q (last_stored call c w q.key None calls) r x (after-fits c calls w f ab)
    (known-run c q.key calls w None f ab known) er e
