-- The limits of a state by its parts: a state is within them exactly if each part is, and so are the parts that the steps make. Assumes nothing.
use Rattle.std.specs.Prelude.{Option, Some, None}
use Prim.Native.Nat.{ℕ, ◌+◌, ◌≤◌}
use mathlib.Core.Bool.{Bool, true, false, cond, not, ◌&&◌}
use mathlib.Core.Path.{◌≡◌, refl}
use native.Mathlib.Omega.{arith}
use lib.Dec.{leb, eqb}
use borrow.Author.Tests.{leb-true, le-leb}
use Rattle.block_value.specs.declared.BlockValue.{BlockValue}
use Rattle.config.specs.declared.Config.{Config}
use Rattle.block_state.specs.declared.Assembled.{Assembled}
use Rattle.block_state.specs.declared.Cached.{Cached}
use Rattle.block_state.specs.declared.Recorded.{Recorded}
use Rattle.block_state.specs.declared.BlockState.{BlockState}
use Rattle.block_state.specs.State.{assembly, no_cache, caching, kept_while, recording, recorded_block, nothing, assembled_ok, cached_ok, recorded_ok, state_ok, is_nothing}
use Rattle.pieces.proofs.Tests.{ands, and_both}

-- ---- a state by its parts

pub record StateFits (c : Config) (s : BlockState) : Type 0 where
  pub assembled : assembled_ok c s.assembled ≡ true
  pub cached : cached_ok c s.cached ≡ true
  pub recorded : recorded_ok s.recorded ≡ true

pub state-fits : (c : Config) (s : BlockState) → state_ok c s ≡ true → StateFits c s
unfolding state_ok
state-fits c s e = record { assembled = search ands; cached = search ands; recorded = search ands }

pub fits-state : (c : Config) (s : BlockState) → StateFits c s → state_ok c s ≡ true
unfolding state_ok
fits-state c s f = search and_both

-- ---- the assembly

-- the assembled length is within the piece
pub assembled-most : (c : Config) (a : Assembled) → assembled_ok c a ≡ true → a.len ≤ c.upload
unfolding assembled_ok
assembled-most c a e = leb-true a.len c.upload (search ands)

pub assembly-ok : (c : Config) (n x : ℕ) → n ≤ c.upload → x ≤ 7 → assembled_ok c (assembly n x) ≡ true
unfolding assembled_ok
assembly-ok c n x hn hx = rw (le-leb n c.upload hn) (go (eqb n 0))
  where
    go : (b : Bool) → (leb (cond b 0 x) 7 && cond b (eqb (cond b 0 x) 0) true) ≡ true
    go true = refl
    go false = and_both (leb x 7) true (le-leb x 7 hx) refl

-- ---- the cached response

pub no-cache-ok : (c : Config) → cached_ok c no_cache ≡ true
unfolding cached_ok
no-cache-ok c = refl

pub kept-ok : (c : Config) (more : Bool) (h : Cached) → cached_ok c h ≡ true → cached_ok c (kept_while more h) ≡ true
kept-ok c true h e = e
kept-ok c false h e = no-cache-ok c

pub caching-ok : (c : Config) (head payload : ℕ) → head ≤ 128 → head + payload ≤ c.response → cached_ok c (caching head payload) ≡ true
unfolding cached_ok
caching-ok c head payload h f =
    and_both (leb head 128) (leb (head + payload) c.response) (le-leb head 128 h) (le-leb (head + payload) c.response f)

-- ---- the recorded value

-- a value with a num of at most this, and a known exponent
abbrev pub Held : ℕ → Option BlockValue → Type 0
Held most None = Unit {0}
Held most (Some b) = (b.num ≤ most) × (b.size_exponent ≤ 7)

pub recording-ok : (most : ℕ) (b : Option BlockValue) → most ≤ 1048575 → Held most b → recorded_ok (recording b) ≡ true
unfolding recorded_ok
recording-ok most None m h = refl
recording-ok most (Some b) m h =
    and_both (leb b.num 1048575) (leb b.size_exponent 7) (le-leb b.num 1048575 (omega (arith, h.0))) (le-leb b.size_exponent 7 h.1)

pub recorded-held : (r : Recorded) → recorded_ok r ≡ true → Held 1048575 (recorded_block r)
unfolding recorded_ok
recorded-held r e = go r.given e
  where
    go : (g : Bool) → cond g (leb r.num 1048575 && leb r.exponent 7) (eqb r.num 0 && not r.more && eqb r.exponent 0) ≡ true
        → Held 1048575 (cond g (Some (record { num = r.num; more = r.more; size_exponent = r.exponent })) None)
    go true h = (leb-true r.num 1048575 (search ands), leb-true r.exponent 7 (search ands))
    go false h = tt

-- ---- a new state

pub nothing-fits : (c : Config) → StateFits c nothing
nothing-fits c = record { assembled = assembly-ok c 0 0 (omega arith) (omega arith); cached = no-cache-ok c; recorded = recording-ok 0 None (omega arith) tt }

pub nothing-empty : is_nothing nothing ≡ true
unfolding is_nothing
nothing-empty = refl
