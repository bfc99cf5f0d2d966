-- What entries within the limits hold fits their pieces and an image. Assumes nothing.
use Prim.Native.Nat.{ℕ, suc, ◌+◌, ◌*◌, ◌^◌, ◌≤◌, ◌<◌}
use mathlib.Core.Bool.{true}
use mathlib.Core.Path.{◌≡◌, refl, sym, ap, ◌∙◌}
use mathlib.Core.List.{List, [], ◌∷◌, map}
use native.Mathlib.Omega.{arith}
use lib.ListN.{length, get_or, length-map, get_or-map, get_or-eq_default}
use lib.Dec.{ltb}
use borrow.Author.Tests.{ltb-true, ltb-false, leb-true, eqb-true}
use Rattle.pieces.proofs.Tests.{ands, by_cases, on_test}
use Rattle.config.specs.declared.Config.{Config}
use Rattle.gathering.specs.Gather.{sum, Short}
use Rattle.gathering.proofs.Laws.{Room, room, sum-most}
use Rattle.block_state.specs.declared.Cached.{Cached}
use Rattle.block_state.specs.declared.Recorded.{Recorded}
use Rattle.block_state.specs.State.{cached_ok, recorded_ok, is_nothing}
use Rattle.block_state.specs.Held.{held_in}
use Rattle.block_state.proofs.Fits.{assembled-most}
use Rattle.keys.specs.declared.Key.{Key}
use Rattle.keys.specs.Keys.{stored_ok}
use Rattle.entries.specs.declared.Entry.{Entry}
use Rattle.entries.specs.Entries.{free, entry_ok}
use Rattle.entries.proofs.Entries.{entry-fits}
use Rattle.block_table.specs.Table.{at}
use Rattle.judge.specs.Limits.{config_ok}
use Rattle.image_format.specs.Image.{assembled_in, cached_in, total}
use Rattle.image_format.proofs.Rows.{count_most}
use Rattle.image_measure.specs.Room.{Rooms}

-- ---- the limits' numbers

pub upload-most : (c : Config) → config_ok c ≡ true → c.upload ≤ 16777216
unfolding config_ok
upload-most c h = leb-true c.upload 16777216 (search ands)

pub response-most : (c : Config) → config_ok c ≡ true → c.response ≤ 65536
unfolding config_ok
response-most c h = leb-true c.response 65536 (search ands)

pub num-most : (r : Recorded) → recorded_ok r ≡ true → r.num ≤ 1048575
unfolding recorded_ok
num-most r =
    on_test (λ b. b ≡ true → r.num ≤ 1048575) r.given (λ _ e. leb-true r.num 1048575 (search ands)) (λ _ e. omega (arith, eqb-true r.num 0 (search ands)))

pub len-most : (k : Key) → stored_ok k ≡ true → k.len ≤ 64
unfolding stored_ok
len-most k h = leb-true k.len 64 (search ands)

-- what is cached is head and payload, and no more than its piece
pub cached-most : (c : Config) (h : Cached) → cached_ok c h ≡ true → h.head + h.payload ≤ c.response
unfolding cached_ok
cached-most c h =
    on_test (λ b. b ≡ true → h.head + h.payload ≤ c.response) h.held (λ _ e. leb-true (h.head + h.payload) c.response (search ands))
    (λ _ e. omega (arith, eqb-true h.head 0 (search ands), eqb-true h.payload 0 (search ands)))

pub cached-held : (c : Config) (h : Cached) → cached_ok c h ≡ true → held_in h ≡ h.head + h.payload
unfolding cached_ok
cached-held c h ok =
    by_cases h.held (λ y. rw y)
    (λ n. let zeros = rw n at ok in rw n (omega (arith, eqb-true h.head 0 (search ands), eqb-true h.payload 0 (search ands))))

-- ---- of an entry, in use or free

module _ (c : Config) (clock : ℕ) (e : Entry) (ok : entry_ok c clock e ≡ true) where
  pub assembled-fits : e.state.assembled.len ≤ c.upload
  unfolding entry_ok is_nothing
  assembled-fits =
      by_cases e.used (λ u. assembled-most c e.state.assembled (entry-fits c clock e u ok).state.assembled)
      (λ n. let zeros = rw n at ok in omega (arith, eqb-true e.state.assembled.len 0 (search ands depth 12)))

  pub cached-fits : e.state.cached.head + e.state.cached.payload ≤ c.response
  unfolding entry_ok is_nothing
  cached-fits =
      by_cases e.used (λ u. cached-most c e.state.cached (entry-fits c clock e u ok).state.cached)
      (λ n.
      let zeros = rw n at ok in
      omega (arith, eqb-true e.state.cached.head 0 (search ands depth 12), eqb-true e.state.cached.payload 0 (search ands depth 12)))

-- ---- of sixteen entries

short-each : (u : ℕ) (l : List ℕ) → ((j : ℕ) → get_or l j 0 ≤ u) → Short u l
short-each u [] h = tt
short-each u (n ∷ l) h = (h 0, short-each u l (λ j. h (suc j)))

-- a length of entry j, where a free entry has none
pub length_at : (f : Entry → ℕ) (l : List Entry) (j : ℕ) → f free ≡ 0 → get_or (map f l) j 0 ≡ f (at l j)
length_at f l j z = ap (get_or (map f l) j) (sym z) ∙ get_or-map f l j free

module _ (c : Config) (clock : ℕ) (l : List Entry) (sixteen : length l ≡ 16) (ok : (i : ℕ) → i < 16 → entry_ok c clock (at l i) ≡ true) where
  -- one that an entry within the limits has at most
  each-most : (f : Entry → ℕ) (u : ℕ) → f free ≡ 0 → ((e : Entry) → entry_ok c clock e ≡ true → f e ≤ u) → (j : ℕ) → get_or (map f l) j 0 ≤ u
  each-most f u z h j =
      rw (length_at f l j z)
      (by_cases (ltb j 16) (λ b. h (at l j) (ok j (ltb-true j 16 b)))
      (λ b. rw (get_or-eq_default l free {n = j} (omega (arith, ltb-false j 16 b)), z) (omega arith)))

  assembled-each : (j : ℕ) → get_or (assembled_in l) j 0 ≤ c.upload
  assembled-each = each-most (λ e. e.state.assembled.len) c.upload refl (assembled-fits c clock)

  cached-each : (j : ℕ) → get_or (cached_in l) j 0 ≤ c.response
  cached-each = each-most (λ e. e.state.cached.head + e.state.cached.payload) c.response refl (cached-fits c clock)

  -- the memories and the image have room
  pub rooms : (u v n : ℕ) → u ≡ 16 * c.upload → v ≡ 16 * c.response → total l ≤ n → Rooms c l u v n
  rooms u v n e f h =
      record {
        upload = e;
        response = f;
        assembled = short-each c.upload (assembled_in l) assembled-each;
        cached = short-each c.response (cached_in l) cached-each;
        room = h;
      }

  pub upload-room : (m : List ℕ) → length m ≡ 16 * c.upload → Room c.upload (length m) 0 (assembled_in l)
  upload-room m e = rw e (room c.upload 16 0 (assembled_in l) (simp length-map (omega arith)) assembled-each)

  pub response-room : (m : List ℕ) → length m ≡ 16 * c.response → Room c.response (length m) 0 (cached_in l)
  response-room m e = rw e (room c.response 16 0 (cached_in l) (simp length-map (omega arith)) cached-each)

  pub total-most : total l ≤ 1568 + 16 * c.upload + 16 * c.response
  total-most =
      let up : sum (assembled_in l) ≤ 16 * c.upload =
      rw sixteen at (rw (length-map l (λ e. e.state.assembled.len)) at (sum-most c.upload (assembled_in l) assembled-each)) in
      let down : sum (cached_in l) ≤ 16 * c.response =
      rw sixteen at (rw (length-map l (λ e. e.state.cached.head + e.state.cached.payload)) at (sum-most c.response (cached_in l) cached-each)) in
      omega (arith, count_most l)

  pub total-small : config_ok c ≡ true → total l < 2 ^ 32
  total-small config = omega (arith, total-most, upload-most c config, response-most c config)
