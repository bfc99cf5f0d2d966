-- The laws that the code's branches use, by their cases. Assumes nothing.
use mathlib.Core.Path.{◌≡◌, refl, sym, ◌∙◌}
use mathlib.Core.Bool.{Bool, true, false, not, cond, ◌&&◌, ◌||◌}
use Prim.Native.Nat.{ℕ}
use borrow.Author.Tests.{eqb-true}
use Rattle.config.specs.declared.Config.{Config}
use Rattle.block_state.specs.declared.BlockState.{BlockState}
use Rattle.block_state.specs.State.{nothing, is_nothing}
use Rattle.expiry.specs.Expiry.{live_by}
use Rattle.entries.specs.declared.Entry.{Entry}
use Rattle.keys.specs.Keys.{Name, same, key_of, key_sized}
use Rattle.entries.specs.Entries.{free, holds, live, swept, unused, entry_ok}
use Rattle.entries.proofs.Entries.{live-used, swept-live, swept-dead}
use Rattle.pieces.proofs.Tests.{ands}
use Rattle.entries.specs.Quick.{holds_live, not_live, sized, unexpired}
use Rattle.keys.proofs.Keys.{no-key-is}

-- ---- expiry

module _ (lifetime time : ℕ) (e : Entry) where
  pub live-as : (b : Bool) → b ≡ live_by e.used e.touched lifetime time → live lifetime time e ≡ b
  unfolding live
  live-as b h = sym h

pub or-true : (b : Bool) → (b || true) ≡ true
or-true true = refl
or-true false = refl

-- an entry is live, or free, or else expired
module _ (lifetime time : ℕ) (e : Entry) where
  pub live-unexpired : live lifetime time e ≡ true → unexpired lifetime time e ≡ true
  unfolding unexpired
  live-unexpired h = rw h (or-true (unused e))

  pub free-unexpired : e.used ≡ false → unexpired lifetime time e ≡ true
  unfolding unexpired
  free-unexpired u = rw u

  pub expired : e.used ≡ true → live lifetime time e ≡ false → unexpired lifetime time e ≡ false
  unfolding unexpired
  expired u h = rw (h, u)

no : (b : Bool) → not b ≡ true → b ≡ false
no true h = sym h
no false h = refl

nothing_is : (s : BlockState) → is_nothing s ≡ true → s ≡ nothing
unfolding is_nothing
nothing_is s h = λ k. record {
  assembled = record {
    len = eqb-true s.assembled.len 0 (search ands depth 12) k;
    exponent = eqb-true s.assembled.exponent 0 (search ands depth 12) k;
  };
  cached = record {
    held = no s.cached.held (search ands depth 12) k;
    head = eqb-true s.cached.head 0 (search ands depth 12) k;
    payload = eqb-true s.cached.payload 0 (search ands depth 12) k;
  };
  recorded = record {
    given = no s.recorded.given (search ands depth 12) k;
    more = no s.recorded.more (search ands depth 12) k;
    exponent = eqb-true s.recorded.exponent 0 (search ands depth 12) k;
    num = eqb-true s.recorded.num 0 (search ands depth 12) k;
  };
}

pub sized-used : (e : Entry) → e.used ≡ true → sized e ≡ true
unfolding sized
sized-used e u = rw u

pub sized-free : (e : Entry) → e.used ≡ false → key_sized e.key ≡ true → sized e ≡ true
unfolding sized
sized-free e u long = rw (u, long)

-- a free entry within the limits is zeros
module _ (c : Config) (clock : ℕ) where
  free-is : (e : Entry) → e.used ≡ false → entry_ok c clock e ≡ true → key_sized e.key ≡ true → e ≡ free
  unfolding entry_ok
  free-is e u h long =
      let ok = rw u at h in
      λ k. record {
        key = no-key-is e.key (search ands depth 12) long k;
        used = u k;
        touched = eqb-true e.touched 0 (search ands depth 12) k;
        state = nothing_is e.state (search ands depth 12) k;
      }

  -- where nothing is expired a sweep leaves the entry as it is
  pub kept_by : (lifetime time : ℕ) (e : Entry) (b : Bool) → e.used ≡ b → entry_ok c clock e ≡ true → sized e ≡ true → unexpired lifetime time e ≡ true → swept lifetime time e ≡ e
  unfolding sized unexpired live
  kept_by lifetime time e true u h z x = swept-live lifetime time e (rw u (rw u at x))
  kept_by lifetime time e false u h z x =
      swept-dead lifetime time e (rw u) ∙ sym (free-is e u h (rw u at z))

-- ---- what a swept entry holds, seen before the sweep

held_by_lem : (k : Name) (e : Entry) (b : Bool) → (b ≡ true → e.used ≡ true) → holds k (cond b e free) ≡ (b && same k (key_of e.key))
unfolding holds
held_by_lem k e true h = rw (h refl)
held_by_lem k e false h = refl

pub holds-swept : (k : Name) (lifetime time : ℕ) (e : Entry) → holds k (swept lifetime time e) ≡ holds_live lifetime time k e
unfolding swept holds_live
holds-swept k lifetime time e = held_by_lem k e (live lifetime time e) (live-used lifetime time e)

unused-by : (e : Entry) (b : Bool) → (b ≡ true → e.used ≡ true) → unused (cond b e free) ≡ not b
unused-by e true h = rw (h refl)
unused-by e false h = refl

pub unused-swept : (lifetime time : ℕ) (e : Entry) → unused (swept lifetime time e) ≡ not_live lifetime time e
unfolding swept
unused-swept lifetime time e = unused-by e (live lifetime time e) (live-used lifetime time e)
