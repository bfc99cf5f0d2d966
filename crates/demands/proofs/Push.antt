-- A push, block by block: where it stands once its last block was taken, with any calls for other keys between. Assumes nothing.
use Rattle.std.specs.Prelude.{None}
use Prim.Native.Nat.{ℕ, zero, suc, ◌+◌, ◌-◌, ◌*◌, ◌≤◌, ◌<◌}
use mathlib.Core.Bool.{Bool, true, false}
use mathlib.Core.Path.{◌≡◌, refl, sym, ◌∙◌, ap, subst}
use mathlib.Core.Logic.{◌⊎◌, inl, inr}
use mathlib.Core.List.{List, [], ◌∷◌, ◌++◌, map, append_assoc}
use native.Mathlib.Omega.{arith}
use lib.ListN.{length, take, length-append}
use lib.Seq.{take-take}
use lib.Dec.{leb, ltb}
use borrow.Author.Tests.{ltb-true, leb-true, le-leb}
use Rattle.pieces.specs.Memory.{part, piece_of}
use Rattle.pieces.proofs.Memory.{within-there, piece-order}
use Rattle.pieces.proofs.Tests.{ands, and_both, by_cases}
use Rattle.block_value.specs.Value.{size_of, block_start}
use Rattle.block_value.specs.declared.BlockValue.{BlockValue}
use Rattle.block_value.proofs.Laws.{size-most}
use Rattle.negotiation.specs.Negotiation.{request_block}
use Rattle.config.specs.declared.Config.{Config}
use Rattle.config.proofs.Mode.{nums-made}
use Rattle.block_state.specs.declared.BlockState.{BlockState}
use Rattle.block_state.specs.Message.{Request, request, WhatBytes}
use Rattle.apart.specs.Answers.{said, continue}
use Rattle.block_state.specs.State.{assembly}
use Rattle.block_state.specs.Step.{bytes_from}
use Rattle.request_step.specs.Step.{step_request}
use Rattle.keys.specs.Lists.{find}
use Rattle.keys.specs.Keys.{Name, key_ok}
use Rattle.keys.proofs.Lists.{find-at-most}
use Rattle.keys.proofs.Keys.{same_refl}
use Rattle.entries.specs.declared.Entry.{Entry}
use Rattle.entries.specs.Entries.{free, holds, live, unused}
use Rattle.entries.proofs.Entries.{holds-new, swept-dead, swept-holds}
use Rattle.block_table.specs.Table.{at}
use Rattle.block_table.proofs.Row.{at-sweep}
use Rattle.block_table.proofs.TableFits.{row, row-length, row-unique, row-live}
use Rattle.key_place.specs.Place.{place}
use Rattle.places.specs.Places.{opened}
use Rattle.places.proofs.Places.{opened-own, opened-new, opened-key, place-holds, place-of}
use Rattle.judge.specs.Limits.{config_ok}
use Rattle.answer_sources.specs.Parts.{part_of}
use Rattle.call.specs.Call.{World, Call, what_ok, call}
use Rattle.call.proofs.Frame.{WorldFits, Took, request-took, call_fits}
use Rattle.one_call.specs.Handler.{entry_at}
use Rattle.one_call.proofs.Checks.{NextAt, starts_first}
use Rattle.demands.specs.Demand3.{Seen, seen, after, Sent, call_on, block, Each, Fills, joined, Prompt, AllBytes, HasLive, HasFree, NothingInPlain, HandsOn, last_of}
use Rattle.demands.specs.Falling.{start_of, StartsAt, RoomAsked, FallingBlocks}
use Rattle.demands.specs.Clocks.{requests_on, run_on, OwnRising}
use Rattle.demands.proofs.OwnStep.{unmarked, OneBlock, fills-most, agreed-asked, agreed-first, Meets, meets-first, UnderWay, meets-next, held_after, own-more, own-last, under-way}
use Rattle.demands.proofs.Runs.{asks-own, all-front, all-behind, after-cut, seen-cut, none_seen, Cut, cut, rising-cut, after-clock}
use Rattle.demands.proofs.Held.{Held, held_place, held-opened, held-others}

-- ---- an entry's place and its piece

limit-most : (c : Config) → config_ok c ≡ true → c.limit ≤ 65535
unfolding config_ok
limit-most c h = leb-true c.limit 65535 (search ands)

-- a block's message is within the limits
pub message-ok : (c : Config) (r : Request) (b : BlockValue) → config_ok c ≡ true → OneBlock c b r → what_ok (request r) ≡ true
unfolding what_ok
message-ok c r b ok one =
    and_both (leb r.bare 65535) (leb (length r.payload) 65535) (le-leb r.bare 65535 (omega (arith, one.bare, limit-most c ok)))
    (le-leb (length r.payload) 65535 (omega (arith, fills-most b.more _ _ one.full, size-most b.size_exponent)))

-- a row with an entry that is not in use has a place for every key
place-free : (k : Name) (l : List Entry) (i : ℕ) → length l ≡ 16 → i < 16 → (at l i).used ≡ false → place k l < 16
unfolding place
place-free k l i long b h =
    let m : find unused l ≤ i = find-at-most unused free l i (omega arith) (rw h) in
    by_cases (ltb (find (holds k) l) 16) (λ y. rw y (ltb-true (find (holds k) l) 16 y)) (λ n. rw n (omega arith))

-- the first bytes of a piece, as an answer names them
pub shown-part : (m : List ℕ) (u i n : ℕ) → i * u + u ≤ length m → n ≤ u → part_of m (bytes_from (i * u) n) ≡ take n (piece_of u i m)
unfolding piece_of part
shown-part m u i n h k =
    let e : i * u + n - i * u ≡ n = omega arith in
    sym (rw e at (within-there m (i * u) (i * u + n) (omega arith) (omega arith))) ∙ sym (take-take n u _ k)

-- ---- block b has come: it has a place, and the entry there meets it with these bytes

pub record Ready (c : Config) (w : World) (k : Name) (time : ℕ) (bytes : List ℕ) (b : BlockValue) : Type 0 where
  pub fits : WorldFits c w
  pub later : w.table.clock ≤ time
  pub placed : place k (row c w.table time) < 16
  pub meets : Meets c (opened k (row c w.table time)).state.assembled (piece_of c.upload (place k (row c w.table time)) w.upload) bytes b

-- a later block: the upload is under way in the key's entry
ready-next : (c : Config) (w : World) (k : Name) (i last time : ℕ) (bytes : List ℕ) (b : BlockValue) → Held c w k i last
    → UnderWay (entry_at w i).state.assembled (piece_of c.upload i w.upload) bytes b → w.table.clock ≤ time → time < last + c.lifetime
    → Ready c w k time bytes b
ready-next c w k i last time bytes b g way later soon =
    let p = held_place c w k i last g time soon in
    record { fits = g.fits; later = later; placed = rw p g.slot; meets = meets-next c _ _ bytes b (rw (held-opened c w k i last g time soon, p) way) }

-- the first: it has a place, and meets nothing assembled, or in strict mode starts afresh
module _ (c : Config) (w : World) (k : Name) (time : ℕ) (f : WorldFits c w) (later : w.table.clock ≤ time) where
  abbrev found : List Entry
  found = row c w.table time

  found-16 : length found ≡ 16
  found-16 = row-length c w.table time f.table f.sixteen

  pub place-first : HasLive c w time k ⊎ HasFree c w time → place k found < 16
  place-first (inl o) =
      let e : at found o.0 ≡ entry_at w o.0 = row-live c w.table time f.table f.sixteen o.0 o.3 in
      rw (place-of k found found-16 (row-unique c w.table time f.table f.sixteen) o.0 o.1 (rw e o.2)) o.1
  place-first (inr o) =
      let e : at found o.0 ≡ free =
      at-sweep c.lifetime time w.table.entries o.0 ∙ swept-dead c.lifetime time (entry_at w o.0) o.2 in
      place-free k found o.0 found-16 o.1 (rw e)

  -- where no live entry of the key's has anything assembled, its call starts from nothing
  none_first : ((i : ℕ) → i < 16 → holds k (entry_at w i) ≡ true → live c.lifetime time (entry_at w i) ≡ true → (entry_at w i).state.assembled.len ≡ 0)
      → place k found < 16 → (opened k found).state.assembled.len ≡ 0
  none_first nothing p =
      let i : ℕ = place k found in
      by_cases (at found i).used
      (λ u.
      let h : holds k (at found i) ≡ true = place-holds k found found-16 u in
      let s = swept-holds c.lifetime time k (entry_at w i) (rw (at-sweep c.lifetime time w.table.entries i) at h) in
      rw (opened-own k found u, row-live c w.table time f.table f.sixteen i s.0) (nothing i p s.1 s.0))
      (λ n. rw (opened-new k found n))

  pub ready-first : (b : BlockValue) → b.num ≡ 0 → place k found < 16 → NothingInPlain c w time k → Ready c w k time [] b
  ready-first b first p nothing = record { fits = f; later = later; placed = p; meets = meets-first c _ _ b first (λ plain. none_first (nothing plain) p) }

-- ---- a block of the client's

module _ (c : Config) (w : World) (k : Name) (b : BlockValue) (s : Sent) (bytes : List ℕ) (g : Ready c w k s.time bytes b)
    (named : key_ok k ≡ true) (hb : WhatBytes (request s.message)) (one : OneBlock c b s.message)
    (fit : length (bytes ++ s.message.payload) ≤ c.upload) where
  abbrev entries : List Entry
  entries = row c w.table s.time

  abbrev here : ℕ
  here = place k entries

  abbrev piece : List ℕ
  piece = piece_of c.upload here w.upload

  abbrev joins : List ℕ
  joins = bytes ++ s.message.payload

  abbrev then : World
  then = (call c w (call_on k s)).world

  abbrev home : ℕ
  home = here * c.upload

  abbrev away : ℕ
  away = here * c.response

  abbrev state : BlockState
  state = (opened k entries).state

  took : Took c (call c w (call_on k s)) here s.time (opened k entries).key (step_request c home away state piece s.message)
  took = request-took c w (call_on k s) g.fits named g.later g.placed s.message refl hb (message-ok c s.message b g.fits.config one)

  block-clock : then.table.clock ≡ s.time
  block-clock = took.clock

  block_held : Held c then k here s.time
  block_held =
      let key = opened-key k entries (row-length c w.table s.time g.fits.table g.fits.sixteen) in
      record {
        fits = call_fits c w (call_on k s) hb g.fits;
        slot = g.placed;
        held = rw took.entry (holds-new k k (opened k entries).key s.time _ key ∙ same_refl k);
        touched = rw took.entry (omega arith);
      }

  -- a marked block is answered Continue, and the upload is under way to any block that goes on from it
  block_more : b.more ≡ true → (n : BlockValue) → NextAt (block_start b + length s.message.payload) b.size_exponent n
      → ((said (call c w (call_on k s)).answer).kind ≡ continue)
      × UnderWay (entry_at then here).state.assembled (piece_of c.upload here then.upload) joins n
  block_more more n next =
      let t = rw (own-more c home away state piece s.message b one bytes g.meets fit more) at took in
      (rw t.answer, rw (t.entry, t.piece) (under-way c home away state piece s.message b one bytes g.meets fit more n next))

  block_last : b.more ≡ false → HandsOn joins (seen (call_on k s) (call c w (call_on k s)) ∷ []) × ((entry_at then here).state.assembled ≡ assembly 0 0)
  block_last last =
      let t = rw (own-last c home away state piece s.message b one bytes g.meets fit last) at took in
      let f = call_fits c w (call_on k s) hb g.fits in
      let in-upload : home + c.upload ≤ length then.upload = omega (arith, f.upload, piece-order here 16 c.upload g.placed) in
      let shown = shown-part then.upload c.upload here (length joins) in-upload fit ∙ ap (take (length joins)) t.piece ∙ held_after piece joins in
      ((rw t.answer, rw t.answer shown), rw t.entry)

-- ---- all of them

-- The calls fall into `front`, which ends with the push's last block, and `behind`, where the key's own calls are `tail`. What is seen of the key's calls in `front`
-- hands on these bytes; then the key's entry has nothing assembled, and its last call was at `last`.
pub record Pushed (c : Config) (w : World) (k : Name) (last n : ℕ) (bytes : List ℕ) (tail calls : List Call) : Type 0 where
  pub front : List Call
  pub behind : List Call
  pub is : calls ≡ front ++ behind
  pub hands : HandsOn bytes (run_on k call c w front)
  pub many : length (run_on k call c w front) ≡ n
  pub slot : ℕ
  pub settled : Held c (after call c w front) k slot last
  pub empty : (entry_at (after call c w front) slot).state.assembled ≡ assembly 0 0
  pub clock : (after call c w front).table.clock ≡ last
  pub rising : OwnRising k last behind
  pub own : requests_on k behind ≡ tail

module _ (c : Config) (w : World) (k : Name) (last n : ℕ) (bytes : List ℕ) (tail calls : List Call) where
  -- other keys' calls before it
  pub pass : (before : List Call) → requests_on k before ≡ [] → Pushed c (after call c w before) k last n bytes tail calls
      → Pushed c w k last n bytes tail (before ++ calls)
  pass before none p =
      let there : after call c w (before ++ p.front) ≡ after call c (after call c w before) p.front = after-cut call c before p.front w in
      let same : run_on k call c w (before ++ p.front) ≡ run_on k call c (after call c w before) p.front =
      seen-cut call c k before p.front w ∙ ap (λ (l : List Seen). l ++ run_on k call c (after call c w before) p.front) (none_seen call c k before w none) in
      record {
        front = before ++ p.front;
        behind = p.behind;
        is = ap (λ (l : List Call). before ++ l) p.is ∙ sym (append_assoc before p.front p.behind);
        hands = rw same p.hands;
        many = rw same p.many;
        slot = p.slot;
        settled = rw there p.settled;
        empty = rw there p.empty;
        clock = rw there p.clock;
        rising = p.rising;
        own = p.own;
      }

  -- a block of its own before it
  one_more_lem : (s : Sent) → (said (call c w (call_on k s)).answer).kind ≡ continue → Pushed c (call c w (call_on k s)).world k last n bytes tail calls
      → Pushed c w k last (suc n) bytes tail (call_on k s ∷ calls)
  one_more_lem s a p =
      record {
        front = call_on k s ∷ p.front;
        behind = p.behind;
        is = ap (λ (l : List Call). call_on k s ∷ l) p.is;
        hands = rw (asks-own k s) (first (run_on k call c (call c w (call_on k s)).world p.front) p.hands);
        many = rw (asks-own k s) (ap suc p.many);
        slot = p.slot;
        settled = p.settled;
        empty = p.empty;
        clock = p.clock;
        rising = p.rising;
        own = p.own;
      }
    where
      first : (l : List Seen) → HandsOn bytes l → HandsOn bytes (seen (call_on k s) (call c w (call_on k s)) ∷ l)
      first [] h = absurd h
      first (t ∷ l) h = (a, h)

-- The client's blocks from s on, whose value is b: each is marked but the last, and the one behind it goes on where it ends.
abbrev pub Follow : Config → BlockValue → Sent → List Sent → Type 0
Follow c b s [] = OneBlock c b s.message × (b.more ≡ false)
Follow c b s (t ∷ rest) =
    OneBlock c b s.message × (b.more ≡ true)
    × (n : BlockValue) × NextAt (block_start b + length s.message.payload) b.size_exponent n × Follow c n t rest

module _ (c : Config) (k : Name) (named : key_ok k ≡ true) where
  -- what is to be shown of a block with these behind it
  abbrev pub From : List Sent → Type 0
  From rest =
      (w : World) (b : BlockValue) (bytes : List ℕ) (s : Sent) (calls tail : List Call) → Ready c w k s.time bytes b
      → Follow c b s rest → Prompt c.lifetime s.time rest → length (bytes ++ joined s rest) ≤ c.upload
      → AllBytes (call_on k s ∷ calls) → OwnRising k s.time calls → requests_on k calls ≡ map (call_on k) rest ++ tail
      → Pushed c w k (last_of s rest).time (suc (length rest)) (bytes ++ joined s rest) tail (call_on k s ∷ calls)

  from_last : From []
  from_last w b bytes s calls tail g follow pr f ab rise own =
      let one = follow.0 in
      let l = block_last c w k b s bytes g named ab.0 one f follow.1 in
      record {
        front = call_on k s ∷ [];
        behind = calls;
        is = refl;
        hands = rw (asks-own k s) l.0;
        many = rw (asks-own k s);
        slot = here c w k b s bytes g named ab.0 one f;
        settled = block_held c w k b s bytes g named ab.0 one f;
        empty = l.1;
        clock = block-clock c w k b s bytes g named ab.0 one f;
        rising = rise;
        own = own;
      }

  from_more : (t : Sent) (rest : List Sent) → From rest → From (t ∷ rest)
  from_more t rest on w b bytes s calls tail g follow pr f ab rise own =
      let one = follow.0 in
      let n : BlockValue = follow.2 in
      let p : List ℕ = s.message.payload in
      let asc : bytes ++ p ++ joined t rest ≡ bytes ++ (p ++ joined t rest) = append_assoc bytes p (joined t rest) in
      let long : length (bytes ++ p ++ joined t rest) ≡ length (bytes ++ p) + length (joined t rest) = length-append (bytes ++ p) (joined t rest) in
      let f' : length (bytes ++ p ++ joined t rest) ≤ c.upload = rw asc f in
      let fit : length (bytes ++ p) ≤ c.upload = omega arith in
      let i : ℕ = here c w k b s bytes g named ab.0 one fit in
      let v : World = (call c w (call_on k s)).world in
      let m = block_more c w k b s bytes g named ab.0 one fit follow.1 n follow.3 in
      let z : Cut k calls (call_on k t) (map (call_on k) rest ++ tail) = cut k calls (call_on k t) (map (call_on k) rest ++ tail) own in
      let r = rising-cut k s.time z.before (call_on k t) z.behind (asks-own k t) (subst (OwnRising k s.time) z.is rise) in
      let ab' : AllBytes (z.before ++ (call_on k t ∷ z.behind)) = subst AllBytes z.is ab.1 in
      let v' : World = after call c v z.before in
      let u = held-others c k i s.time t.time pr.0 z.before v (block_held c w k b s bytes g named ab.0 one fit)
      (all-front _ z.before (call_on k t ∷ z.behind) ab') r.1 z.none in
      let clock : v.table.clock ≡ s.time = block-clock c w k b s bytes g named ab.0 one fit in
      let ready : Ready c v' k t.time (bytes ++ p) n =
      ready-next c v' k i s.time t.time (bytes ++ p) n u.1 (rw (u.0.assembled, u.0.upload) m.1)
      (after-clock c t.time z.before v (omega (arith, r.0, clock)) r.1) pr.0 in
      let d = on v' n (bytes ++ p) t z.behind tail ready follow.4 pr.1 f' (all-behind _ z.before (call_on k t ∷ z.behind) ab') r.2 z.left in
      let d' = pass c v k (last_of t rest).time (suc (length rest)) (bytes ++ p ++ joined t rest) tail (call_on k t ∷ z.behind) z.before z.none d in
      one_more_lem c w k (last_of t rest).time (suc (length rest)) (bytes ++ (p ++ joined t rest)) tail calls s m.0
      (subst (λ (l : List Call). Pushed c v k (last_of t rest).time (suc (length rest)) (bytes ++ (p ++ joined t rest)) tail l) (sym z.is) (rw asc at d'))

  pub push-from : (rest : List Sent) → From rest
  push-from [] = from_last
  push-from (t ∷ rest) = from_more t rest (push-from rest)

-- ---- the client's blocks, whose sizes never rise

-- another follows
abbrev marked : List Sent → Bool
marked [] = false
marked (t ∷ rest) = true

-- what follows from something that holds of each block, for places below n
pub each_map : (P Q : ℕ → Bool → Request → Type 0) (n : ℕ) → ((j : ℕ) (more : Bool) (r : Request) → j < n → P j more r → Q j more r)
    → (j : ℕ) (s : Sent) (rest : List Sent) → j + length rest < n → Each P j s rest → Each Q j s rest
each_map P Q n f j s [] h e = f j false s.message (omega arith) e
each_map P Q n f j s (t ∷ rest) h e = (f j true s.message (omega arith) e.0, each_map P Q n f (suc j) t rest (omega arith) e.1)

pub each_first : (P : ℕ → Bool → Request → Type 0) (j : ℕ) (s : Sent) (rest : List Sent) → Each P j s rest → P j (marked rest) s.message
each_first P j s [] e = e
each_first P j s (t ∷ rest) e = e.0

pub each_last : (P : ℕ → Bool → Request → Type 0) (j : ℕ) (s : Sent) (rest : List Sent) → Each P j s rest → P (j + length rest) false (last_of s rest).message
each_last P j s [] e =
    let z : j + 0 ≡ j = omega arith in
    rw z e
each_last P j s (t ∷ rest) e =
    let z : j + suc (length rest) ≡ suc j + length rest = omega arith in
    rw z (each_last P (suc j) t rest e.1)

-- block j, with the num that takes it to its start
abbrev pub BlockAt : Config → (ℕ → ℕ) → ℕ → Bool → Request → Type 0
BlockAt c x j more r = (num : ℕ) × (num * size_of (x j) ≡ start_of x j) × OneBlock c (block num more (x j)) r

block_at : (c : Config) (x : ℕ → ℕ) (j : ℕ) (more : Bool) (r : Request) → x j ≤ 6 → StartsAt c (start_of x j) (x j) more r
    → Fills more (length r.payload) (size_of (x j)) → request_block c r.block2 ≡ None → RoomAsked c j (size_of (x j)) r.bare → BlockAt c x j more r
block_at c x zero more r six n full alone room =
    let b : BlockValue = block n.num more (x 0) in
    let a = agreed-first c b r n.reads six (starts_first b n.starts) room in
    (n.num, n.starts, record { size = six; numbered = n.reads; full = full; alone = alone; bare = omega arith; reply = a.0; agreed = a.1 })
block_at c x (suc j) more r six n full alone room =
    let b : BlockValue = block n.num more (x (suc j)) in
    let a = agreed-asked c b r n.reads six (omega (arith, n.limit, nums-made c.strict)) (fills-most more _ _ full) room in
    (n.num, n.starts, record { size = six; numbered = n.reads; full = full; alone = alone; bare = omega arith; reply = unmarked b; agreed = a })

-- from block j on, which this many follow, none is larger than the one before it
abbrev FallsFrom : (ℕ → ℕ) → ℕ → ℕ → Type 0
FallsFrom x j many = (i : ℕ) → j ≤ i → i < j + many → x (suc i) ≤ x i

falls-on : (x : ℕ → ℕ) (j many : ℕ) → FallsFrom x j (suc many) → FallsFrom x (suc j) many
falls-on x j many falls i l h = falls i (omega arith) (omega arith)

-- what is asked of them, block by block
pub each-block : (c : Config) (x : ℕ → ℕ) (first : Sent) (rest : List Sent) → FallingBlocks c x first rest → Each (BlockAt c x) 0 first rest
each-block c x first rest b = from 0 first rest b.size (λ i l h. b.falls i (omega arith)) b.numbered b.full b.alone b.room
  where
    from : (j : ℕ) (s : Sent) (rest : List Sent) → x j ≤ 6 → FallsFrom x j (length rest)
        → Each (λ j more r. StartsAt c (start_of x j) (x j) more r) j s rest → Each (λ j more r. Fills more (length r.payload) (size_of (x j))) j s rest
        → Each (λ j more r. request_block c r.block2 ≡ None) j s rest → Each (λ j more r. RoomAsked c j (size_of (x j)) r.bare) j s rest → Each (BlockAt c x) j s rest
    from j s [] six falls n f a r = block_at c x j false s.message six n f a r
    from j s (t ∷ rest) six falls n f a r = (
      block_at c x j true s.message six n.0 f.0 a.0 r.0,
      from (suc j) t rest (omega (arith, falls j (omega arith) (omega arith))) (falls-on x j _ falls) n.1 f.1 a.1 r.1,
    )

-- each goes on where the one before it ends
follow-on : (c : Config) (x : ℕ → ℕ) (j : ℕ) (s : Sent) (rest : List Sent) → FallsFrom x j (length rest)
    → (each : Each (BlockAt c x) j s rest) → Follow c (block (each_first (BlockAt c x) j s rest each).0 (marked rest) (x j)) s rest
unfolding each_first
follow-on c x j s [] falls each = (each.2, refl)
follow-on c x j s (t ∷ rest) falls each =
    let next = each_first (BlockAt c x) (suc j) t rest each.1 in
    let ends : next.0 * size_of (x (suc j)) ≡ each.0.0 * size_of (x j) + length s.message.payload = omega (arith, next.1, each.0.1, each.0.2.full) in (
      each.0.2,
      refl,
      block next.0 (marked rest) (x (suc j)),
      (ends, falls j (omega arith) (omega arith)),
      follow-on c x (suc j) t rest (falls-on x j _ falls) each.1,
    )

pub blocks-follow : (c : Config) (x : ℕ → ℕ) (first : Sent) (rest : List Sent) → FallingBlocks c x first rest
    → (b : BlockValue) × (b.num ≡ 0) × Follow c b first rest
blocks-follow c x first rest b =
    let each = each-block c x first rest b in
    let head = each_first (BlockAt c x) 0 first rest each in
    let value : BlockValue = block head.0 (marked rest) (x 0) in
    (value, starts_first value head.1, follow-on c x 0 first rest (λ i l h. b.falls i (omega arith)) each)
