-- A client can send as many full blocks as the mode has nums. By induction on how many blocks follow one: no list of that length is computed. Assumes nothing.
use Rattle.std.specs.Prelude.{Some, None}
use Prim.Native.Nat.{ℕ, zero, suc, ◌+◌, ◌*◌, ◌≤◌, ◌<◌}
use mathlib.Core.Bool.{Bool, true, false}
use mathlib.Core.Path.{◌≡◌, refl, ap}
use mathlib.Core.Logic.{inr}
use mathlib.Core.List.{List, [], ◌∷◌, map}
use native.Mathlib.Omega.{arith}
use lib.ListN.{length, replicate, length-append, length-replicate}
use lib.Pow.{pow_mono}
use borrow.Author.Tests.{leb-true, le-leb, eq-eqb}
use Rattle.pieces.proofs.Tests.{ands}
use Rattle.config.specs.declared.Config.{Config}
use Rattle.config.specs.Mode.{byte_limit, nums}
use Rattle.block_value.specs.Value.{size_of}
use Rattle.block_value.specs.declared.BlockValue.{BlockValue}
use Rattle.block_value.proofs.Laws.{size-most}
use Rattle.block_option.specs.Uint.{Bytes}
use Rattle.block_option.specs.Option.{written}
use Rattle.block_option.proofs.Rfc7959.{as-the-rfc}
use Rattle.negotiation.specs.Negotiation.{request_block}
use Rattle.block_state.specs.Message.{Request}
use Rattle.keys.specs.Keys.{key_ok}
use Rattle.keys.proofs.Keys.{same_refl}
use Rattle.block_table.proofs.TableFits.{fresh_ok_lem}
use Rattle.judge.specs.Limits.{config_ok, memories_ok}
use Rattle.call.specs.Call.{what_ok, within_limits}
use Rattle.demands.specs.Demand3.{Sent, call_on, calls_on, block, joined, Each, Fills, Prompt, Rising, AllBytes, Blocks}
use Rattle.cases.specs.Shams.{key, sent}
use Rattle.cases.specs.Longest.{fresh_for, PushOf, Longest, largest, LongestOfAll}
use Rattle.cases.proofs.Shams.{fresh-free, fresh-nothing}

-- ---- what is written is read: it is bytes, and reads as the value

abbrev Kept : Config → BlockValue → Type 0
Kept c b = Bytes (written c.strict b) × (request_block c (Some (written c.strict b)) ≡ Some b)

kept : (c : Config) (b : BlockValue) → b.num < nums c.strict → b.size_exponent ≤ 7 → Kept c b
unfolding request_block
kept c b few known = let w = (as-the-rfc c.strict).write b (omega arith) known in (w.0.bytes, w.3)

-- ---- the client's blocks

fills : (more : Bool) {p size : ℕ} → p ≡ size → Fills more p size
fills true e = e
fills false e = omega arith

-- all calls are blocks on the key
own-blocks : (l : List Sent) → calls_on key (map (call_on key) l) ≡ map (call_on key) l
own-blocks [] = refl
own-blocks (s ∷ l) = rw (same_refl key, own-blocks l)

abbrev marked : ℕ → Bool
marked zero = false
marked (suc left) = true

module _ (c : Config) (x : ℕ) where
  -- block j, which `left` others follow, and those
  abbrev full_block : ℕ → ℕ → Sent
  full_block j left = sent 0 (written c.strict (block j (marked left) x)) (replicate (size_of x) 65)

  abbrev following : ℕ → ℕ → List Sent
  following j zero = []
  following j (suc left) = full_block (suc j) left ∷ following (suc j) left

  -- what holds of every block whose num the mode has holds of each of these
  each : (P : ℕ → Bool → Request → Type 0) → ((j left : ℕ) → j < nums c.strict → P j (marked left) (full_block j left).message)
      → (j left : ℕ) → j + left < nums c.strict → Each P j (full_block j left) (following j left)
  each P h j zero b = h j zero (omega arith)
  each P h j (suc left) b = (h j (suc left) (omega arith), each P h (suc j) left (omega arith))

  following-many : (j left : ℕ) → length (following j left) ≡ left
  following-many j zero = refl
  following-many j (suc left) = ap suc (following-many (suc j) left)

  joined_length : (j left : ℕ) → length (joined (full_block j left) (following j left)) ≡ suc left * size_of x
  joined_length j zero = rw length-replicate (omega arith)
  joined_length j (suc left) = rw (length-append, length-replicate, joined_length (suc j) left) (omega arith)

  prompt : 1 ≤ c.lifetime → (j left : ℕ) → Prompt c.lifetime 0 (following j left)
  prompt h j zero = tt
  prompt h j (suc left) = (omega arith, prompt h (suc j) left)

  rising : (j left : ℕ) → Rising 0 (map (call_on key) (following j left))
  rising j zero = tt
  rising j (suc left) = (omega arith, rising (suc j) left)

  module _ (known : x ≤ 6) where
    all-bytes : (j left : ℕ) → j + left < nums c.strict → AllBytes (map (call_on key) (full_block j left ∷ following j left))
    all-bytes j zero b = (((kept c (block j false x) (omega arith) (omega arith)).0, tt), tt)
    all-bytes j (suc left) b = (((kept c (block j true x) (omega arith) (omega arith)).0, tt), all-bytes (suc j) left (omega arith))

    module _ (ok : config_ok c ≡ true) (left : ℕ) where
      within : within_limits c (fresh_for c) (call_on key (full_block 0 left)) ≡ true
      unfolding within_limits memories_ok key_ok what_ok
      within =
          let small : size_of x ≤ 65535 = omega (arith, size-most x) in
          simp (length-replicate, ok, eq-eqb (16 * c.upload) _ refl, eq-eqb (16 * c.response) _ refl, le-leb, fresh_ok_lem)

      module _ (few : left < nums c.strict) (room : 20 + 12 + size_of x ≤ c.limit) (fits : suc left * size_of x ≤ c.upload) where
        blocks : Blocks c x (full_block 0 left) (following 0 left)
        unfolding config_ok request_block
        blocks =
            record {
              count = rw (following-many 0 left) few;
              numbered = each (λ j more r. request_block c r.block1 ≡ Some (block j more x)) (λ j l b. (kept c (block j (marked l) x) b (omega arith)).1) 0 left (omega arith);
              size = known;
              full = each (λ j more r. Fills more (length r.payload) (size_of x)) (λ j l b. fills (marked l) (length-replicate {A = ℕ} (size_of x) 65)) 0 left (omega arith);
              alone = each (λ j more r. request_block c r.block2 ≡ None) (λ j l b. refl) 0 left (omega arith);
              room = each (λ j more r. r.bare + 12 + size_of x ≤ c.limit) (λ j l b. room) 0 left (omega arith);
              fits = rw (joined_length 0 left) fits;
              prompt = prompt (leb-true 1 c.lifetime (search ands)) 0 left;
            }

        push : PushOf c x (suc left)
        push =
            record {
              first = full_block 0 left;
              rest = following 0 left;
              many = ap suc (following-many 0 left);
              full = joined_length 0 left;
              blocks = blocks;
              granted = record {
                entry = inr (fresh-free c (fresh_for c) 0 refl);
                nothing = fresh-nothing c (fresh_for c) 0 key refl;
                within = record { limits = within; sixteen = refl; bytes = all-bytes 0 left (omega arith) };
                own = own-blocks (following 0 left);
                clock = (omega arith, rising 0 left);
              };
            }

pub longest : Longest
longest c x zero ok known least few room fits = absurd (omega arith)
longest c x (suc left) ok known least few room fits = push c x known ok left few room fits

pub longest-of-all : LongestOfAll
unfolding config_ok nums byte_limit size_of
longest-of-all =
    record {
      strict16 = longest (largest true) 0 _ refl (omega arith) (omega arith) (omega arith) (omega arith) (omega arith);
      strict64 = longest (largest true) 2 _ refl (omega arith) (omega arith) (omega arith) (omega arith) (omega arith);
      plain = λ x known.
          let small : size_of x ≤ 1024 = pow_mono {j = 10} (omega arith) in
          longest (largest false) x _ refl known (omega arith) (omega arith) (omega arith) (omega arith);
    }
