-- Blocks of one size are blocks whose sizes never rise; and where such blocks end, any smaller one can start. Assumes nothing.
use Rattle.std.specs.Prelude.{Some}
use Prim.Native.Nat.{ℕ, zero, suc, ◌+◌, ◌-◌, ◌*◌, ◌^◌, ◌≤◌, ◌<◌}
use mathlib.Core.Bool.{true}
use mathlib.Core.Path.{◌≡◌, ◌∙◌}
use native.Mathlib.Nat.{add-mul, mul-le-mul_left}
use native.Mathlib.Omega.{arith}
use lib.ListN.{length}
use Rattle.block_value.specs.Value.{size_of}
use Rattle.block_value.proofs.Laws.{size-smaller, size-least}
use Rattle.negotiation.specs.Negotiation.{request_block}
use Rattle.config.specs.Mode.{byte_limit, nums}
use Rattle.block_state.specs.Message.{Request}
use Rattle.demands.specs.Demand3.{block, Demand3}
use Rattle.demands.specs.Falling.{start_of, StartsAt, AnySmallerStarts, RoomAsked, OneSize, Extends, Demand3Falling}
use Rattle.demands.proofs.Push.{each_map}

-- ---- one size

-- block j of one size starts at j times that size
pub start-same : (x j : ℕ) → j * size_of x ≡ start_of (λ i. x) j
start-same x zero = omega arith
start-same x (suc j) = omega (arith, start-same x j)

pub one_size_lem : OneSize
one_size_lem c x first rest b =
    record {
      numbered = each_map (λ j more r. request_block c r.block1 ≡ Some (block j more x)) (λ j more r. StartsAt c (start_of (λ i. x) j) x more r) (nums c.strict)
          (λ j more r few reads. record { num = j; starts = start-same x j; limit = few; reads = reads }) 0 first rest (omega (arith, b.count)) b.numbered;
      size = b.size;
      falls = λ j h. omega arith;
      full = b.full;
      alone = b.alone;
      room = each_map (λ j more r. r.bare + 12 + size_of x ≤ c.limit) (λ j more r. RoomAsked c j (size_of x) r.bare) (suc (length rest))
          (λ j more r _. leaves j r) 0 first rest (omega arith) b.room;
      fits = b.fits;
      prompt = b.prompt;
    }
  where
    leaves : (j : ℕ) (r : Request) → r.bare + 12 + size_of x ≤ c.limit → RoomAsked c j (size_of x) r.bare
    leaves zero r h = omega (arith, size-least x)
    leaves (suc j) r h = h

pub extends : Extends
unfolding Extends Demand3Falling Demand3
extends h d c w k x first rest later b g = d c w k (λ j. x) first rest later (one_size_lem c x first rest b) g

-- ---- a smaller size

-- a num that takes a block below 16,777,216 is within strict mode's limit
within-nums : (num y start : ℕ) → num * size_of y ≡ start → start < 16777216 → num < nums true
unfolding nums byte_limit
within-nums num y start e h =
    let least : num * 16 ≤ num * size_of y = mul-le-mul_left num (size-least y) in
    omega arith

module _ (x : ℕ → ℕ) (six : x 0 ≤ 6) where
  abbrev Falls : ℕ → Type 0
  Falls j = (i : ℕ) → i < j → x (suc i) ≤ x i

  at_most : (j : ℕ) → Falls j → x j ≤ 7
  at_most zero falls = omega arith
  at_most (suc j) falls = omega (arith, at_most j (λ i h. falls i (omega arith)), falls j (omega arith))

  reached : (j y : ℕ) → Falls j → y ≤ x j → (num : ℕ) × (num * size_of y ≡ start_of x (suc j))
  reached zero y falls k = (2 ^ (x 0 - y), size-smaller (x 0) y (omega arith) k ∙ omega arith)
  reached (suc j) y falls k =
      let before = reached j y (λ i h. falls i (omega arith)) (omega (arith, falls j (omega arith))) in
      let m : ℕ = 2 ^ (x (suc j) - y) in
      let own : m * size_of y ≡ size_of (x (suc j)) = size-smaller (x (suc j)) y (at_most (suc j) falls) k in
      (before.0 + m, add-mul before.0 m (size_of y) ∙ omega (arith, before.1, own))

pub any-smaller-starts : AnySmallerStarts
any-smaller-starts x j y six falls k = let there = reached x six j y falls k in (there.0, there.1, within-nums there.0 y _ there.1)
