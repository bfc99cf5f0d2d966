-- What demand 3 asks for can be given, and the four shams break it. Assumes nothing.
use Rattle.std.specs.Prelude.{Some}
use Prim.Native.Nat.{ℕ, zero, suc, ◌+◌, ◌-◌, ◌≤◌, ◌<◌}
use mathlib.Core.Bool.{Bool, true, false, cond, ◌&&◌}
use mathlib.Core.Path.{◌≡◌, refl, sym, ◌∙◌, ap}
use mathlib.Core.Logic.{inl, inr}
use mathlib.Core.List.{List, [], ◌∷◌, ◌++◌}
use native.Mathlib.Omega.{arith}
use lib.ListN.{length, get_or, take, drop, replicate, get_or-replicate, get_or-eq_default, length-take}
use lib.Seq.{get_or-drop, get_or-take}
use lib.Dec.{leb, ltb}
use borrow.Author.Tests.{ltb-true, ltb-false}
use Rattle.pieces.specs.Memory as memory
use Rattle.pieces.proofs.Tests.{by_cases, on_test}
use Rattle.config.proofs.Mode.{bytes-least, nums-least}
use Rattle.block_option.specs.Uint.{uint}
use Rattle.block_option.specs.Option.{unpacked}
use Rattle.block_option.proofs.Laws.{read-few}
use Rattle.negotiation.specs.Negotiation.{request_block}
use Rattle.config.specs.declared.Config.{Config}
use Rattle.block_state.specs.declared.Part.{Part}
use Rattle.block_state.specs.declared.Answer.{Answer}
use Rattle.block_state.specs.declared.Answer.TheVariants.{Continue, TooLarge, Handed, Pass, Served, Plain, Whole, First, Refused}
use Rattle.apart.specs.Answers as answers
use Rattle.apart.specs.Answers.{said, continue, handed}
use Rattle.keys.specs.Keys as keys
use Rattle.keys.specs.Keys.{Name}
use Rattle.entries.specs.declared.Entry.{Entry}
use Rattle.entries.specs.Entries.{free, live}
use Rattle.answer_sources.specs.Parts.{part_of, body_of}
use Rattle.block_table.specs.Table.{fresh_table}
use Rattle.call.specs.Call.{World, call}
use Rattle.one_call.specs.Handler.{Handler, entry_at}
use Rattle.demands.specs.Demand3.{run, Sent, HasFree, HasLive, NothingInPlain, Blocks, Granted, Demand3, call_on, block}
use Rattle.demands.proofs.Runs.{fresh-entry}
use Rattle.cases.specs.Shams.{kinds, numbers, config, fresh, key, sent, first_block, last_block, later, wide, used, wide_first, wide_second, wide_last, CanBeGiven, Excluded, Exist}
use Rattle.cases.proofs.Computes.{values, limits, calls}

-- ---- what is given can be given

-- a fresh table has a free entry, and nothing assembled for any key
pub fresh-free : (c : Config) (w : World) (time : ℕ) → w.table ≡ fresh_table → HasFree c w time
unfolding live
fresh-free c w time fresh = (0, omega arith, rw (fresh-entry w fresh 0 (omega arith)))

pub fresh-nothing : (c : Config) (w : World) (time : ℕ) (k : Name) → w.table ≡ fresh_table → NothingInPlain c w time k
fresh-nothing c w time k fresh plain i b h y = rw (fresh-entry w fresh i b)

-- an option of at most two bytes is read in either mode
pub reads : (c : Config) (option : List ℕ) → length option ≤ 2 → request_block c (Some option) ≡ Some (unpacked (uint option))
unfolding values
reads c option short = read-few c.strict option (omega (arith, bytes-least c.strict))

-- a block alone, and two blocks, of at most 16 bytes
module _ (c : Config) (room : 48 ≤ c.limit) where
  pub one_block : (time : ℕ) (p : List ℕ) → length p ≤ 16 → length p ≤ c.upload → Blocks c 0 (sent time [] p) []
  unfolding values
  one_block time p short fits =
      record {
        count = omega (arith, nums-least c.strict);
        numbered = reads c [] (omega arith);
        size = omega arith;
        full = short;
        alone = refl;
        room = room;
        fits = fits;
        prompt = tt;
      }

  pub two_blocks : (time next : ℕ) (p q : List ℕ) → length p ≡ 16 → length q ≤ 16 → length (p ++ q) ≤ c.upload → next < time + c.lifetime
      → Blocks c 0 (sent time (0x08 ∷ []) p) (sent next (0x10 ∷ []) q ∷ [])
  unfolding values
  two_blocks time next p q full short fits soon =
      record {
        count = omega (arith, nums-least c.strict);
        numbered = (reads c (0x08 ∷ []) (omega arith), reads c (0x10 ∷ []) (omega arith));
        size = omega arith;
        full = (full, short);
        alone = (refl, refl);
        room = (room, room);
        fits = fits;
        prompt = (soon, tt);
      }

given-one : (strict : Bool) → Granted (config strict) fresh key (sent 5 [] (7 ∷ [])) [] []
unfolding limits
given-one strict =
    record {
      entry = inr (fresh-free (config strict) fresh 5 refl);
      nothing = fresh-nothing (config strict) fresh 5 key refl;
      within = record { limits = refl; sixteen = refl; bytes = ((tt, tt), tt) };
      own = refl;
      clock = (omega arith, tt);
    }

blocks-one : (strict : Bool) → Blocks (config strict) 0 (sent 5 [] (7 ∷ [])) []
blocks-one strict = one_block (config strict) (omega arith) 5 (7 ∷ []) (omega arith) (omega arith)

given-two : (strict : Bool) → Granted (config strict) fresh key first_block (last_block ∷ []) later
unfolding limits
given-two strict =
    record {
      entry = inr (fresh-free (config strict) fresh 5 refl);
      nothing = fresh-nothing (config strict) fresh 5 key refl;
      within = record {
        limits = refl;
        sixteen = refl;
        bytes = (((omega arith, tt), tt), (((omega arith, tt), tt), (((omega arith, tt), tt), (tt, (((omega arith, tt), tt), (((omega arith, tt), tt), tt))))));
      };
      own = refl;
      clock = (omega arith, (omega arith, (omega arith, (omega arith, (omega arith, (omega arith, tt))))));
    }

blocks-two : (strict : Bool) → Blocks (config strict) 0 first_block (last_block ∷ [])
blocks-two strict = two_blocks (config strict) (omega arith) 5 9 (replicate 16 65) (66 ∷ 67 ∷ []) refl (omega arith) (omega arith) (omega arith)

-- the one live entry has nothing assembled, and the others are free
none-used : (i : ℕ) → i < 16 → (entry_at used i).state.assembled.len ≡ 0
none-used zero b = refl
none-used (suc i) b = ap (λ (e : Entry). e.state.assembled.len) (get_or-replicate 15 i free free (omega arith))

has-live : (strict : Bool) → HasLive (wide strict) used 6 key
unfolding calls
has-live strict = (0, omega arith, refl, refl)

given-three : (strict : Bool) → Granted (wide strict) used key wide_first (wide_second ∷ wide_last ∷ []) (call_on key wide_second ∷ call_on key wide_last ∷ [])
unfolding limits
given-three strict =
    record {
      entry = inl (has-live strict);
      nothing = λ plain i b h l. none-used i b;
      within = record { limits = refl; sixteen = refl; bytes = (((omega arith, tt), tt), (((omega arith, tt), tt), (((omega arith, tt), tt), tt))) };
      own = refl;
      clock = (omega arith, (omega arith, (omega arith, tt)));
    }

blocks-three : (strict : Bool) → Blocks (wide strict) 6 wide_first (wide_second ∷ wide_last ∷ [])
unfolding values
blocks-three strict =
    record {
      count = omega (arith, nums-least strict);
      numbered = (reads (wide strict) (0x0E ∷ []) (omega arith), (reads (wide strict) (0x1E ∷ []) (omega arith), reads (wide strict) (0x26 ∷ []) (omega arith)));
      size = omega arith;
      full = (refl, (refl, omega arith));
      alone = (refl, (refl, refl));
      room = (omega arith, (omega arith, omega arith));
      fits = omega arith;
      prompt = (omega arith, (omega arith, tt));
    }

between_given : (strict : Bool)
    → kinds (run call (config strict) fresh (call_on key first_block ∷ later)) ≡ continue ∷ continue ∷ answers.refusal ∷ answers.first ∷ answers.refusal ∷ handed ∷ []
unfolding calls
between_given true = refl
between_given false = refl

refusals_given : (strict : Bool) → numbers (run call (config strict) fresh (call_on key first_block ∷ later)) ≡ 0 ∷ 0 ∷ 1 ∷ 0 ∷ cond strict 9 7 ∷ 0 ∷ []
unfolding calls
refusals_given true = refl
refusals_given false = refl

pub can-be-given : CanBeGiven
unfolding calls
can-be-given =
    record {
      one = λ strict. (blocks-one strict, given-one strict);
      two = λ strict. (blocks-two strict, given-two strict);
      between = between_given;
      refusals = refusals_given;
      live = has-live;
      three = λ strict. (blocks-three strict, given-three strict);
    }

-- ---- the shams

abbrev alone : Sent
alone = sent 5 [] (7 ∷ [])

module _ (h : Handler) (d : Demand3 h) (strict : Bool) where
  -- the one block is handed on, and the first of two is answered Continue
  handed-one : (said (h (config strict) fresh (call_on key alone)).answer).kind ≡ handed
  unfolding Demand3 keys.same
  handed-one = (d (config strict) fresh key 0 alone [] [] (blocks-one strict) (given-one strict)).0

  shown-one : body_of (h (config strict) fresh (call_on key alone)).answer (7 ∷ []) (h (config strict) fresh (call_on key alone)).world.upload ≡ 7 ∷ []
  unfolding Demand3 keys.same
  shown-one = (d (config strict) fresh key 0 alone [] [] (blocks-one strict) (given-one strict)).1

  continued : (said (h (config strict) fresh (call_on key first_block)).answer).kind ≡ continue
  unfolding Demand3 keys.same
  continued = (d (config strict) fresh key 0 first_block (last_block ∷ []) later (blocks-two strict) (given-two strict)).0

-- no part of a memory of zeros begins with another byte
zeros : (n i : ℕ) → get_or {A = ℕ} (replicate n 0) i 0 ≡ 0
zeros zero i = refl
zeros (suc n) zero = refl
zeros (suc n) (suc i) = zeros n i

zero-part : (n : ℕ) (p : Part) → get_or {A = ℕ} (part_of (replicate n 0) p) 0 0 ≡ 0
unfolding memory.within memory.part
zero-part n p =
    let m : List ℕ = replicate n 0 in
    let k : ℕ = p.to - p.from in
    let there : get_or {A = ℕ} (take k (drop p.from m)) 0 0 ≡ 0 =
    by_cases (ltb 0 k)
    (λ y. get_or-take k (drop p.from m) 0 0 (ltb-true 0 k y) ∙ get_or-drop p.from m 0 0 ∙ zeros n (p.from + 0))
    (λ o. get_or-eq_default (take k (drop p.from m)) 0 {n = 0} (omega (arith, ltb-false 0 k o, length-take k (drop p.from m)))) in
    on_test (λ (l : List ℕ). get_or {A = ℕ} l 0 0 ≡ 0) (leb p.from p.to && leb p.to (length m)) {x = take k (drop p.from m)} {y = []} (λ _. there) (λ _. refl)

shown-zero : (a : Answer) (payload : List ℕ) (n : ℕ) → (said a).kind ≡ handed → get_or {A = ℕ} (body_of a payload (replicate n 0)) 0 0 ≡ 0
shown-zero (Handed b p) payload n e = zero-part n p
shown-zero Pass payload n e = let z : ◌≡◌ {A = ℕ} 0 1 = cc in absurd (omega arith)
shown-zero (Continue b) payload n e = refl
shown-zero (TooLarge b) payload n e = refl
shown-zero (Served s) payload n e = refl
shown-zero Plain payload n e = refl
shown-zero (Whole b p) payload n e = refl
shown-zero (First b p) payload n e = refl
shown-zero (Refused m) payload n e = refl

first_reads : (c : Config) → request_block c first_block.message.block1 ≡ Some (block 0 true 0)
unfolding values
first_reads c = reads c (0x08 ∷ []) (omega arith)

pub excluded : Excluded
excluded =
    record {
      refuses_all = λ b h r d. let z : ◌≡◌ {A = ℕ} 0 1 = cc (handed-one h d b, r (config b) fresh (call_on key alone) refl) in omega arith;
      passes_all = λ b h r d. let z : ◌≡◌ {A = ℕ} 0 1 = cc (handed-one h d b, r (config b) fresh (call_on key alone) refl) in omega arith;
      stores_nothing = λ b h r d.
          let s : ◌≡◌ {A = ℕ} 7 0 =
          sym (ap (λ l. get_or l 0 0) (rw (r (config b) fresh (call_on key alone) refl) at (shown-one h d b)))
          ∙ shown-zero (h (config b) fresh (call_on key alone)).answer (7 ∷ []) 512 (handed-one h d b) in
          omega arith;
      hands_at_zero = λ b h r d.
          let z : ◌≡◌ {A = ℕ} 0 1 = cc (continued h d b, r (config b) fresh key first_block true 0 refl (given-two b).within.limits (first_reads (config b))) in
          omega arith;
    }

pub exist : Exist
exist =
    record {
      refuses = λ b c w q e. refl;
      passes = λ b c w q e. refl;
      forgets = λ b c w q e. refl;
      nods = λ b c w k s more x f l e. rw e;
    }
