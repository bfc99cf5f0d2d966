-- Laws of an entry: whose it is, expiry, and its limits. Assumes nothing.
use Prim.Native.Nat.{ℕ, ◌-◌, ◌≤◌, ◌<◌}
use mathlib.Core.Bool.{true, false, not, ◌&&◌, false≢true}
use mathlib.Core.Path.{◌≡◌, refl, sym, ◌∙◌, ap}
use native.Mathlib.Omega.{arith}
use lib.Dec.{leb, ltb}
use borrow.Author.Tests.{leb-true, lt-ltb, le-leb, not-true}
use Rattle.config.specs.declared.Config.{Config}
use Rattle.block_state.specs.declared.BlockState.{BlockState}
use Rattle.block_state.specs.State.{state_ok}
use Rattle.pieces.proofs.Tests.{ands, and_left, and_right, and_both, clash-of, by_cases}
use Rattle.block_state.proofs.Fits.{StateFits, state-fits, fits-state, nothing-empty}
use Rattle.keys.specs.declared.Key.{Key}
use Rattle.entries.specs.declared.Entry.{Entry}
use Rattle.keys.specs.Keys.{Name, same, key_of, stored_ok}
use Rattle.entries.specs.Entries.{in_use, free, holds, entry_ok, clash, live, swept}
use Rattle.keys.proofs.Keys.{same_refl, same-eq, no_key_lem}

-- ---- whose entry

pub holds-used : (k : Name) (e : Entry) → holds k e ≡ true → e.used ≡ true
unfolding holds
holds-used k e h = and_left e.used (same k (key_of e.key)) h

pub holds-key : (k : Name) (e : Entry) → holds k e ≡ true → k ≡ key_of e.key
unfolding holds
holds-key k e h = same-eq k (key_of e.key) (and_right e.used (same k (key_of e.key)) h)

pub holds-own : (e : Entry) → e.used ≡ true → holds (key_of e.key) e ≡ true
unfolding holds
holds-own e h = and_both e.used (same (key_of e.key) (key_of e.key)) h (same_refl (key_of e.key))

pub holds-one : (k q : Name) (e : Entry) → holds k e ≡ true → holds q e ≡ true → k ≡ q
holds-one k q e a b = holds-key k e a ∙ sym (holds-key q e b)

-- an entry in use whose key is k holds q exactly where q is k
pub holds-new : (q k : Name) (y : Key) (t : ℕ) (s : BlockState) → key_of y ≡ k → holds q (in_use y t s) ≡ same q k
unfolding holds
holds-new q k y t s e = ap (same q) e

-- two entries that do not clash do not hold one key
pub no-clash : (k : Name) (e f : Entry) → holds k e ≡ true → holds k f ≡ true → not (clash e f) ≡ true → ⊥
unfolding clash
no-clash k e f a b h =
    clash-of (e.used && holds (key_of e.key) f)
    (and_both e.used (holds (key_of e.key) f) (holds-used k e a) (rw (← (holds-key k e a)) b)) (not-true (e.used && holds (key_of e.key) f) h)

-- ---- expiry

module _ (lifetime time : ℕ) where
  pub live-used : (e : Entry) → live lifetime time e ≡ true → e.used ≡ true
  unfolding live
  live-used e h = and_left e.used (ltb (time - e.touched) lifetime) h

  pub used-live : (e : Entry) → e.used ≡ true → time - e.touched < lifetime → live lifetime time e ≡ true
  unfolding live
  used-live e u h = and_both e.used (ltb (time - e.touched) lifetime) u (lt-ltb (time - e.touched) lifetime h)

  pub swept-live : (e : Entry) → live lifetime time e ≡ true → swept lifetime time e ≡ e
  unfolding swept
  swept-live e h = rw h

  pub swept-dead : (e : Entry) → live lifetime time e ≡ false → swept lifetime time e ≡ free
  unfolding swept
  swept-dead e h = rw h

  -- what a swept entry holds, the entry held, and it is live
  pub swept-holds : (k : Name) (e : Entry) → holds k (swept lifetime time e) ≡ true → (live lifetime time e ≡ true) × (holds k e ≡ true)
  unfolding swept holds
  swept-holds k e =
      by_cases (live lifetime time e) (λ y. rw y (λ h. (refl, h))) (λ n. rw n (λ h. absurd (false≢true h)))

-- ---- the limits of an entry

pub record EntryFits (c : Config) (clock : ℕ) (e : Entry) : Type 0 where
  pub key : stored_ok e.key ≡ true
  pub touched : e.touched ≤ clock
  pub state : StateFits c e.state

pub entry-fits : (c : Config) (clock : ℕ) (e : Entry) → e.used ≡ true → entry_ok c clock e ≡ true → EntryFits c clock e
unfolding entry_ok
entry-fits c clock e u h =
    let k : (stored_ok e.key && leb e.touched clock && state_ok c e.state) ≡ true = rw (u, entry_ok) at h in
    record { key = search ands; touched = leb-true e.touched clock (search ands); state = state-fits c e.state (search ands) }

pub fits-entry : (c : Config) (clock : ℕ) (e : Entry) → e.used ≡ true → EntryFits c clock e → entry_ok c clock e ≡ true
unfolding entry_ok
fits-entry c clock e u f = rw u (search (and_both, le-leb, fits-state))

pub free-ok : (c : Config) (clock : ℕ) → entry_ok c clock free ≡ true
unfolding entry_ok
free-ok c clock = rw (no_key_lem, nothing-empty)

-- a swept entry stays within the limits at a later clock
pub swept-ok : (c : Config) (lifetime clock time : ℕ) (e : Entry) → clock ≤ time → entry_ok c clock e ≡ true → entry_ok c time (swept lifetime time e) ≡ true
swept-ok c lifetime clock time e h ok =
    by_cases (live lifetime time e)
    (λ y.
    let u : e.used ≡ true = live-used lifetime time e y in
    let f : EntryFits c clock e = entry-fits c clock e u ok in
    rw (swept-live lifetime time e y) (fits-entry c time e u (record { key = f.key; touched = omega arith; state = f.state })))
    (λ n. rw (swept-dead lifetime time e n) (free-ok c time))
