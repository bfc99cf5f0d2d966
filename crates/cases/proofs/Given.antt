-- What the statements ask for can be given, by computation. Assumes nothing.
use Rattle.std.specs.Prelude.{Some, None, Ok}
use Prim.Native.Nat.{ℕ, ◌+◌, ◌≤◌, ◌<◌}
use mathlib.Core.Bool.{Bool, true, false, ◌&&◌, false≢true}
use mathlib.Core.Path.{◌≡◌, refl, sym, ◌∙◌, ap, subst}
use mathlib.Core.Logic.{inl, inr}
use mathlib.Core.List.{List, [], ◌∷◌, ◌++◌, map}
use native.Mathlib.Omega.{arith}
use lib.ListN.{length, replicate}
use lib.Dec.{ltb}
use borrow.Author.Tests.{ltb-true}
use Rattle.pieces.proofs.Tests.{and_left, and_right}
use Rattle.block_value.specs.Value.{size_of}
use Rattle.negotiation.specs.Negotiation.{negotiated}
use Rattle.block_state.specs.Message.{request, WhatBytes}
use Rattle.apart.specs.Answers.{said, served}
use Rattle.keys.specs.Keys as keys
use Rattle.answer_sources.specs.Parts.{served_chunk}
use Rattle.call.specs.Call.{Call, call, within_limits}
use Rattle.one_call.specs.Strict.{PassesFive}
use Rattle.demands.specs.Demand3.{Sent, call_on, block, All, AllBytes, Blocks}
use Rattle.demands.specs.Clocks.{requests_on, GrantedOwn}
use Rattle.demands.proofs.Runs.{rising-own}
use Rattle.one_call.proofs.Checks.{well-formed}
use Rattle.demands.proofs.Falling.{one_size_lem}
use Rattle.demands.proofs.Demand3.{granted-own}
use Rattle.many_calls.specs.Twice.{SentAgain}
use Rattle.many_calls.specs.Crossing.{among, AllAmong, counted, calls_of, FromFresh, Sends}
use Rattle.many_calls.specs.Pages.{last_stored}
use Rattle.cases.specs.Shams.{config, fresh, key, sent, first_block, last_block, later}
use Rattle.cases.specs.Given.{large, lent_world, full, sixteen_more, far_again, key_of_byte, single_of, pushes_of, on_each, bytes, backwards, refused, answering, crossing}
use Rattle.cases.specs.Given.{EachSends, goes_back, page, storing, asked, AllCanBeGiven}
use Rattle.cases.proofs.Computes.{values, limits, calls}
use Rattle.cases.proofs.Shams.{fresh-free, fresh-nothing, one_block, can-be-given}
use Rattle.cases.proofs.Falling.{blocks-fall}
use Rattle.cases.specs.Falling.{narrow, lent, first64, next32, last16}

-- ---- what holds of every call, by one test

every : (Call → Bool) → List Call → Bool
every p [] = true
every p (q ∷ calls) = p q && every p calls

every-all : (p : Call → Bool) (calls : List Call) → every p calls ≡ true → All (λ q. p q ≡ true) calls
unfolding every
every-all p [] h = tt
every-all p (q ∷ calls) h = (and_left (p q) (every p calls) h, every-all p calls (and_right (p q) (every p calls) h))

bytes-each : (s : ℕ → Sent) → ((b : ℕ) → WhatBytes (request (s b).message)) → (l : List ℕ) → AllBytes (on_each s l)
bytes-each s h [] = tt
bytes-each s h (b ∷ l) = (h b, bytes-each s h l)

bytes-both : (a b : List Call) → AllBytes a → AllBytes b → AllBytes (a ++ b)
bytes-both [] b h k = k
bytes-both (q ∷ a) b h k = (h.0, bytes-both a b h.1 k)

-- ---- sixteen keys

abbrev counting : List Call
counting = on_each (first64 5) bytes ++ (on_each (next32 8) backwards ++ (on_each (last16 9) bytes ++ (answering ++ on_each single_of bytes)))

-- all count but the two that are refused
counted_is : counted 0 crossing ≡ counting
unfolding limits
counted_is = refl

sends : (strict : Bool) (b : ℕ) → requests_on (key_of_byte b) counting ≡ calls_of (key_of_byte b) (pushes_of b) → Sends (narrow strict) (key_of_byte b) crossing (pushes_of b)
sends strict b own =
    record {
      own = ap (requests_on (key_of_byte b)) counted_is ∙ own;
      proper = (
        blocks-fall strict 5 8 9 b b b (omega arith) (omega arith),
        (one_size_lem (narrow strict) 0 _ _ (one_block (narrow strict) (omega arith) 10 (b ∷ b ∷ []) (omega arith) (omega arith)), tt),
      );
    }

-- ---- seventeen blocks

within : (u d : List ℕ) → length u ≡ 262160 → length d ≡ 256 → within_limits large (lent_world u d) (call_on key (full 0x0E)) ≡ true
unfolding limits
within u d hu hd = rw (hu, hd)

all-below : List ℕ → Bool
all-below [] = true
all-below (n ∷ l) = ltb n 256 && all-below l

seventeen : Blocks large 6 (full 0x0E) sixteen_more
unfolding values
seventeen =
    let r : 20 + 12 + size_of 6 ≤ 1152 = omega arith in
    let p : 1 < 1 + 120000 = omega arith in
    record {
      count = omega arith;
      numbered = (refl, (refl, (refl, (refl, (refl, (refl, (refl, (refl, (refl, (refl, (refl, (refl, (refl, (refl, (refl, (refl, refl))))))))))))))));
      size = omega arith;
      full = (refl, (refl, (refl, (refl, (refl, (refl, (refl, (refl, (refl, (refl, (refl, (refl, (refl, (refl, (refl, (refl, omega arith))))))))))))))));
      alone = (refl, (refl, (refl, (refl, (refl, (refl, (refl, (refl, (refl, (refl, (refl, (refl, (refl, (refl, (refl, (refl, refl))))))))))))))));
      room = (r, (r, (r, (r, (r, (r, (r, (r, (r, (r, (r, (r, (r, (r, (r, (r, r))))))))))))))));
      fits = omega arith;
      prompt = (p, (p, (p, (p, (p, (p, (p, (p, (p, (p, (p, (p, (p, (p, (p, (p, tt))))))))))))))));
    }

bytes-full : (options : List ℕ) → all-below options ≡ true → AllBytes (map (call_on key) (map full options))
unfolding all-below
bytes-full [] h = tt
bytes-full (n ∷ l) h = (((ltb-true n 256 (and_left (ltb n 256) (all-below l) h), tt), tt), bytes-full l (and_right (ltb n 256) (all-below l) h))

far-bytes : AllBytes (map (call_on key) (full 0x0E ∷ sixteen_more))
unfolding all-below
far-bytes =
    let options : List ℕ = 0x0E ∷ 0x1E ∷ 0x2E ∷ 0x3E ∷ 0x4E ∷ 0x5E ∷ 0x6E ∷ 0x7E ∷ 0x8E ∷ 0x9E ∷ 0xAE ∷ 0xBE ∷ 0xCE ∷ 0xDE ∷ 0xEE ∷ 0xFE ∷ [] in
    bytes-both (map (call_on key) (map full options)) (call_on key (sent 1 (0x01 ∷ 0x06 ∷ []) (9 ∷ [])) ∷ []) (bytes-full options refl)
    (((omega arith, (omega arith, tt)), tt), tt)

far-granted : (u d : List ℕ) → length u ≡ 262160 → length d ≡ 256 → GrantedOwn large (lent_world u d) key (full 0x0E) sixteen_more (map (call_on key) sixteen_more)
unfolding keys.same
far-granted u d hu hd =
    let t : 1 ≤ 1 = omega arith in
    record {
      entry = inr (fresh-free large (lent_world u d) 1 refl);
      nothing = fresh-nothing large (lent_world u d) 1 key refl;
      within = record { limits = within u d hu hd; sixteen = refl; bytes = far-bytes };
      own = refl;
      clock = rising-own key 0 (map (call_on key) (full 0x0E ∷ sixteen_more))
          (omega arith, (t, (t, (t, (t, (t, (t, (t, (t, (t, (t, (t, (t, (t, (t, (t, (t, tt)))))))))))))))));
    }

-- ---- all of them

-- a marked block 1 of n bytes passes checks 1 to 5, where its limits and its negotiation do
abbrev marked : ℕ → Sent
marked n = sent 5 (0x18 ∷ []) (replicate n 2)

passes-five : (n : ℕ) → within_limits (config true) fresh (call_on key (marked n)) ≡ true
    → negotiated (config true) (Some (block 1 true 0)) 20 (length (marked n).message.payload) ≡ Ok (Some (block 1 false 0))
    → PassesFive (config true) fresh (call_on key (marked n)) (marked n).message (block 1 true 0)
unfolding calls
passes-five n ok agreed =
    record {
      asks = refl;
      given = refl;
      placed = record { limits = ok; sixteen = refl; clock = omega arith; place = omega arith };
      reply = block 1 false 0;
      agreed = agreed;
    }

serves-it : (strict : Bool) → (said (asked strict).answer).kind ≡ served
unfolding calls
serves-it true = refl
serves-it false = refl

stored-it : (strict : Bool) → last_stored call (config strict) fresh key None storing ≡ Some page
unfolding calls
stored-it true = refl
stored-it false = refl

chunk-it : (strict : Bool) → served_chunk (asked strict).answer (asked strict).world.response ≡ 68 ∷ []
unfolding calls
chunk-it true = refl
chunk-it false = refl

crosses : (strict : Bool) → FromFresh (narrow strict) lent (map key_of_byte bytes) crossing
unfolding limits every
crosses strict =
    let singles : List Call = answering ++ on_each single_of bytes in
    let lasts : List Call = on_each (last16 9) bytes ++ singles in
    let nexts : List Call = on_each (next32 8) backwards ++ lasts in
    record {
      start = record { table = refl; config = refl; memories = refl };
      sixteen = omega arith;
      over = subst (AllAmong (map key_of_byte bytes)) (sym counted_is) (every-all (λ q. among q.key (map key_of_byte bytes)) counting refl);
      bytes = bytes-both (on_each (first64 5) bytes) (refused ++ nexts) (bytes-each (first64 5) (λ b. ((omega arith, tt), tt)) bytes)
          (bytes-both refused nexts ((tt, tt), (((omega arith, tt), tt), tt))
          (bytes-both (on_each (next32 8) backwards) lasts (bytes-each (next32 8) (λ b. ((omega arith, tt), tt)) backwards)
          (bytes-both (on_each (last16 9) bytes) singles (bytes-each (last16 9) (λ b. ((omega arith, tt), tt)) bytes)
          (tt, bytes-each single_of (λ b. (tt, tt)) bytes))));
    }

-- each key's own calls that count are its two pushes
abbrev Owns : List ℕ → Type 0
Owns [] = Unit {0}
Owns (b ∷ l) = (requests_on (key_of_byte b) counting ≡ calls_of (key_of_byte b) (pushes_of b)) × Owns l

owns : Owns bytes
unfolding keys.same
owns = (refl, (refl, (refl, (refl, (refl, (refl, (refl, (refl, (refl, (refl, (refl, (refl, (refl, (refl, (refl, (refl, tt))))))))))))))))

each-sends : (strict : Bool) → EachSends strict bytes
each-sends strict = from bytes owns
  where
    from : (l : List ℕ) → Owns l → EachSends strict l
    from [] o = tt
    from (b ∷ l) o = (sends strict b o.0, from l o.1)

goes_back_lem : (strict : Bool) → GrantedOwn (config strict) fresh key first_block (last_block ∷ []) goes_back
unfolding keys.same
goes_back_lem strict =
    let g = (can-be-given.two strict).1 in
    record {
      entry = g.entry;
      nothing = g.nothing;
      within = record {
        limits = g.within.limits;
        sixteen = refl;
        bytes = (((omega arith, tt), tt), (((omega arith, tt), tt), (((omega arith, tt), tt), (((omega arith, tt), tt), tt))));
      };
      own = refl;
      clock = (λ y. omega arith, (λ y. omega arith, (λ y. absurd (false≢true y), (λ y. omega arith, tt))));
    }

far-again : (u d : List ℕ) → length u ≡ 262160 → length d ≡ 256 → SentAgain large (lent_world u d) key (λ j. 6) (full 0x0E) sixteen_more (map (call_on key) sixteen_more) far_again
far-again u d hu hd =
    let t : 1 ≤ 2 = omega arith in
    record {
      blocks = one_size_lem large 6 _ _ seventeen;
      granted = far-granted u d hu hd;
      same = refl;
      clock = (t, (t, (t, (t, (t, (t, (t, (t, (t, (t, (t, (t, (t, (t, (t, (t, (t, tt)))))))))))))))));
      soon = omega arith;
    }

pub all-can-be-given : AllCanBeGiven
unfolding calls
all-can-be-given =
    record {
      twice = λ strict. record {
        blocks = one_size_lem (config strict) 0 _ _ (can-be-given.two strict).0;
        granted = granted-own (config strict) fresh key first_block (last_block ∷ []) later (can-be-given.two strict).1;
        same = refl;
        clock = (omega arith, (omega arith, (omega arith, (omega arith, (omega arith, (omega arith, tt))))));
        soon = omega arith;
      };
      once = λ strict. record {
        blocks = one_size_lem (config strict) 0 _ _ (can-be-given.one strict).0;
        granted = granted-own (config strict) fresh key _ [] [] (can-be-given.one strict).1;
        same = refl;
        clock = (omega arith, tt);
        soon = omega arith;
      };
      far = far-again;
      cross = crosses;
      each = each-sends;
      back = goes_back_lem;
      five = passes-five 15 refl refl;
      bad = inr (inr (refl, λ e. let z : ◌≡◌ {A = ℕ} 15 16 = e in omega arith));
      misplaced = (λ e. let z : ◌≡◌ {A = ℕ} 1 0 = e in omega arith, inl (λ e. let z : ◌≡◌ {A = ℕ} 16 0 = e in omega arith));
      astray = passes-five 16 refl refl;
      well = well-formed (block 1 true 0) 16 (omega arith) (omega arith) (λ _. refl);
      serves = serves-it;
      stored = stored-it;
      chunk = chunk-it;
    }
