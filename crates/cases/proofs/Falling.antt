-- What demand 3 for a sender that goes smaller asks for can be given, by computation, and the shams break it. Assumes nothing.
use Rattle.std.specs.Prelude.{Some}
use Prim.Native.Nat.{ℕ, zero, suc, ◌+◌, ◌≤◌, ◌<◌}
use mathlib.Core.Bool.{Bool, true, false, cond, false≢true}
use mathlib.Core.Path.{◌≡◌, refl}
use mathlib.Core.Logic.{inr}
use mathlib.Core.List.{◌∷◌, []}
use native.Mathlib.Omega.{arith}
use Rattle.config.proofs.Mode.{nums-least}
use Rattle.apart.specs.Answers as answers
use Rattle.apart.specs.Answers.{said, continue, refusal}
use Rattle.call.specs.Call.{call}
use Rattle.one_call.proofs.Checks.{well-formed, next-not-misplaced}
use Rattle.demands.specs.Demand3.{run, call_on, block, AllBytes, Granted}
use Rattle.demands.specs.Falling.{FallingBlocks, Extends, Demand3Falling}
use Rattle.demands.proofs.Falling.{extends}
use Rattle.demands.proofs.Demand3.{granted-own}
use Rattle.many_calls.specs.Twice.{SentAgain}
use Rattle.cases.specs.Shams.{kinds, numbers, key}
use Rattle.cases.specs.Falling.{narrow, lent, falling, first64, next32, last16, rest, later, CanFall, SaidYesAndNo, one_size_only, FallingExcluded}
use Rattle.cases.proofs.Computes.{values, limits, calls}
use Rattle.cases.proofs.Shams.{fresh-free, fresh-nothing, reads}

never-rises : (j : ℕ) → falling (suc j) ≤ falling j
never-rises zero = omega arith
never-rises (suc zero) = omega arith
never-rises (suc (suc j)) = omega arith

pub blocks-fall : (strict : Bool) (t u v a b e : ℕ) → u < t + 100 → v < u + 100 → FallingBlocks (narrow strict) falling (first64 t a) (next32 u b ∷ last16 v e ∷ [])
unfolding values
blocks-fall strict t u v a b e soon sooner =
    let few = nums-least strict in
    record {
      numbered = (
        record { num = 0; starts = refl; limit = omega arith; reads = reads (narrow strict) (0x0A ∷ []) (omega arith) },
        (
          record { num = 2; starts = refl; limit = omega arith; reads = reads (narrow strict) (0x29 ∷ []) (omega arith) },
          record { num = 6; starts = refl; limit = omega arith; reads = reads (narrow strict) (0x60 ∷ []) (omega arith) },
        ),
      );
      size = omega arith;
      falls = λ j h. never-rises j;
      full = (refl, (refl, omega arith));
      alone = (refl, (refl, refl));
      room = (omega arith, (omega arith, omega arith));
      fits = omega arith;
      prompt = (soon, (sooner, tt));
    }

all-bytes : AllBytes (call_on key (first64 5 65) ∷ later)
all-bytes =
    (((omega arith, tt), tt), (((omega arith, tt), tt), (((omega arith, tt), tt), (tt, (((omega arith, tt), tt), (((omega arith, tt), tt), (((omega arith, tt), tt), tt)))))))

given-fall : (strict : Bool) → Granted (narrow strict) lent key (first64 5 65) rest later
unfolding limits
given-fall strict =
    record {
      entry = inr (fresh-free (narrow strict) lent 5 refl);
      nothing = fresh-nothing (narrow strict) lent 5 key refl;
      within = record { limits = refl; sixteen = refl; bytes = all-bytes };
      own = refl;
      clock = (omega arith, (omega arith, (omega arith, (omega arith, (omega arith, (omega arith, (omega arith, tt)))))));
    }

again-fall : (strict : Bool) → SentAgain (narrow strict) lent key falling (first64 5 65) rest later (last16 10 67)
again-fall strict =
    record {
      blocks = blocks-fall strict 5 8 9 65 66 67 (omega arith) (omega arith);
      granted = granted-own (narrow strict) lent key (first64 5 65) rest later (given-fall strict);
      same = refl;
      clock = (omega arith, (omega arith, (omega arith, (omega arith, (omega arith, (omega arith, (omega arith, tt)))))));
      soon = omega arith;
    }

reply_fall : (strict : Bool) → (said (call (narrow strict) lent (call_on key (first64 5 65))).answer).block1 ≡ Some (block 0 true 1)
unfolding calls
reply_fall true = refl
reply_fall false = refl

between_fall : (strict : Bool)
    → kinds (run call (narrow strict) lent (call_on key (first64 5 65) ∷ later))
    ≡ continue ∷ continue ∷ refusal ∷ answers.first ∷ continue ∷ cond strict refusal continue ∷ answers.handed ∷ []
unfolding calls
between_fall true = refl
between_fall false = refl

refusals_fall : (strict : Bool)
    → numbers (run call (narrow strict) lent (call_on key (first64 5 65) ∷ later)) ≡ 0 ∷ 0 ∷ 1 ∷ 0 ∷ 0 ∷ cond strict 9 0 ∷ 0 ∷ []
unfolding calls
refusals_fall true = refl
refusals_fall false = refl

pub can-fall : CanFall
unfolding calls
can-fall =
    record {
      blocks = λ strict. blocks-fall strict 5 8 9 65 66 67 (omega arith) (omega arith);
      granted = given-fall;
      no_room = λ strict. omega arith;
      reply = reply_fall;
      between = between_fall;
      refusals = refusals_fall;
      twice = again-fall;
      live = (0, omega arith, refl, refl);
      within = record { limits = refl; sixteen = refl; bytes = all-bytes };
    }

-- ---- strict mode says yes, and no

pub said-yes-and-no : SaidYesAndNo
unfolding calls
said-yes-and-no =
    record {
      second = record {
        five = record { asks = refl; given = refl; placed = record { limits = refl; sixteen = refl; clock = omega arith; place = omega arith }; reply = block 2 false 1; agreed = refl };
        well = well-formed (block 2 true 1) 32 (omega arith) (omega arith) (λ _. refl);
        next = next-not-misplaced _ (block 2 true 1) (refl, omega arith);
        fits = omega arith;
      };
      last = record {
        five = record { asks = refl; given = refl; placed = record { limits = refl; sixteen = refl; clock = omega arith; place = omega arith }; reply = block 6 false 0; agreed = refl };
        well = well-formed (block 6 false 0) 2 (omega arith) (omega arith) (λ e. absurd (false≢true e));
        next = next-not-misplaced _ (block 6 false 0) (refl, omega arith);
        fits = omega arith;
      };
      five = record { asks = refl; given = refl; placed = record { limits = refl; sixteen = refl; clock = omega arith; place = omega arith }; reply = block 1 false 1; agreed = refl };
      well = well-formed (block 1 true 1) 32 (omega arith) (omega arith) (λ _. refl);
      start = refl;
      rises = (λ e. let z : ◌≡◌ {A = ℕ} 1 0 = e in omega arith, inr (omega arith));
    }

-- ---- the shams

-- the second block of the push is refused
refuses-second : Demand3Falling one_size_only → ⊥
unfolding Demand3Falling calls
refuses-second d =
    let second : refusal ≡ continue = (d (narrow true) lent key falling (first64 5 65) rest later (can-fall.blocks true) (given-fall true)).1.0 in
    let z : ◌≡◌ {A = ℕ} 0 1 = cc second in
    omega arith

pub falling-excluded : FallingExcluded
unfolding Extends
falling-excluded = record { shams = λ Sham breaks strict h sham d. breaks strict h sham (extends h d); one_size = refuses-second }
