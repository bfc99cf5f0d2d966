-- Laws of the bytes held: of one entry, and of a row in which one entry is put in its place. Assumes nothing.
use Prim.Native.Nat.{ℕ, zero, suc, ◌+◌, ◌-◌, ◌*◌, ◌≤◌, ◌<◌}
use mathlib.Core.Bool.{Bool, true, false, cond}
use mathlib.Core.Path.{◌≡◌, refl}
use mathlib.Core.List.{List, [], ◌∷◌}
use native.Mathlib.Omega.{arith}
use lib.ListN.{length, get_or, set}
use borrow.Author.Tests.{leb-true}
use Rattle.pieces.proofs.Tests.{ands, by_cases}
use Rattle.config.specs.declared.Config.{Config}
use Rattle.block_state.specs.declared.Cached.{Cached}
use Rattle.block_state.specs.State.{cached_ok}
use Rattle.block_state.proofs.Fits.{assembled-most}
use Rattle.keys.specs.Lists.{all}
use Rattle.entries.specs.declared.Entry.{Entry}
use Rattle.entries.specs.Entries.{free, entry_ok, live, swept}
use Rattle.block_state.specs.Held.{held_in, held_of}
use Rattle.entries.specs.Held.{held_by, held}
use Rattle.entries.proofs.Entries.{entry-fits, swept-live, swept-dead}

-- ---- of one entry

pub held-used : (e : Entry) → e.used ≡ true → held_by e ≡ held_of e.state
unfolding held_by
held-used e u = rw u

pub held-unused : (e : Entry) → e.used ≡ false → held_by e ≡ 0
unfolding held_by
held-unused e u = rw u

pub free-holds : held_by free ≡ 0
free-holds = held-unused free refl

-- a sweep keeps no more than was there
pub swept-holds : (lifetime time : ℕ) (e : Entry) → held_by (swept lifetime time e) ≤ held_by e
swept-holds lifetime time e =
    by_cases (live lifetime time e) (λ y. rw (swept-live lifetime time e y) (omega arith)) (λ n. rw (swept-dead lifetime time e n, free-holds) (omega arith))

cached-most : (c : Config) (h : Cached) → cached_ok c h ≡ true → held_in h ≤ c.response
unfolding cached_ok
cached-most c h ok = go h.held refl
  where
    go : (b : Bool) → h.held ≡ b → cond b (h.head + h.payload) 0 ≤ c.response
    go true e = let both = rw e at ok in leb-true (h.head + h.payload) c.response (search ands)
    go false e = omega arith

-- an entry within its limits holds no more than its two pieces
pub entry-most : (c : Config) (clock : ℕ) (e : Entry) → entry_ok c clock e ≡ true → held_by e ≤ c.upload + c.response
entry-most c clock e ok =
    by_cases e.used
    (λ u.
    let f = (entry-fits c clock e u ok).state in
    omega (arith, held-used e u, assembled-most c e.state.assembled f.assembled, cached-most c e.state.cached f.cached))
    (λ n. omega (arith, held-unused e n))

-- ---- of a row

pub row-most : (c : Config) (clock : ℕ) (l : List Entry) → all (entry_ok c clock) l ≡ true → held l ≤ length l * (c.upload + c.response)
unfolding held
row-most c clock [] ok = omega arith
row-most c clock (e ∷ l) ok = omega (arith, entry-most c clock e (search ands), row-most c clock l (search ands))

pub held_at : (l : List Entry) (i : ℕ) → i < length l → held_by (get_or l i free) ≤ held l
unfolding held
held_at [] i h = absurd (omega arith)
held_at (e ∷ l) zero h = omega arith
held_at (e ∷ l) (suc i) h = omega (arith, held_at l i (omega arith))

-- what stood in its place goes out, and what is put there comes in
pub held-set : (l : List Entry) (i : ℕ) (e : Entry) → i < length l → held (set l i e) ≡ (held l - held_by (get_or l i free)) + held_by e
unfolding held
held-set [] i e h = absurd (omega arith)
held-set (x ∷ l) zero e h = omega arith
held-set (x ∷ l) (suc i) e h = omega (arith, held_at l i (omega arith), held-set l i e (omega arith))
