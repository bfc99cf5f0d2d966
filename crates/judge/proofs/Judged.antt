-- The verdict by its cases, and what a place tells. Assumes nothing.
use Rattle.std.specs.Prelude.{Result, Ok, Err}
use Prim.Native.Nat.{ℕ, ◌+◌, ◌*◌, ◌^◌, ◌≤◌, ◌<◌}
use mathlib.Core.Path.{◌≡◌, refl, sym, ap, ◌∙◌}
use mathlib.Core.Bool.{Bool, true, false, cond, not, ◌&&◌}
use mathlib.Core.List.{List}
use native.Mathlib.Omega.{arith}
use lib.ListN.{length}
use lib.Dec.{leb, ltb}
use borrow.Author.Tests.{ltb-false, leb-true, leb-false, eqb-true, lt-ltb, le-ltb}
use Rattle.refusal.specs.declared.Refusal.{Refusal}
use Rattle.refusal.specs.declared.Refusal.TheVariants as refusal
use Rattle.pieces.proofs.Memory.{piece-order}
use Rattle.config.specs.declared.Config.{Config}
use Rattle.pieces.proofs.Tests.{ands, by_cases}
use Rattle.block_state.proofs.Fits.{assembled-most}
use Rattle.block_table.specs.declared.Table.{Table}
use Rattle.keys.specs.Keys.{Name, key_ok}
use Rattle.entries.specs.declared.Entry.{Entry}
use Rattle.entries.specs.Entries.{entry_ok, sweep}
use Rattle.block_table.specs.Table.{table_ok, at}
use Rattle.places.specs.declared.Place.{Place as Spot}
use Rattle.places.specs.declared.Place.TheVariants.{At}
use Rattle.key_place.specs.Place.{place}
use Rattle.places.specs.Places.{place_of, opened}
use Rattle.places.specs.declared.Sight.{Sight}
use Rattle.places.specs.Sight.{place_in, index_of, held_beside, sight_at, Sees}
use Rattle.keys.specs.Lists.{all}
use Rattle.entries.specs.Quick.{sized, unexpired}
use Rattle.block_table.proofs.Turns.{sweep-kept}
use Rattle.block_table.proofs.TableFits.{table_fits}
use Rattle.places.proofs.Put.{opened-fits}
use Rattle.judge.specs.declared.Lengths.{Lengths}
use Rattle.judge.specs.Limits.{config_ok, memories_ok}
use Rattle.judge.specs.Verdict.{message_ok, limits_ok, verdict_at, verdict_of, verdict_by, HasPlace}

-- what the limits of a configuration tell
pub record ConfigFits (c : Config) : Type 0 where
  pub lifetime : 1 ≤ c.lifetime
  pub upload : c.upload ≤ 16777216
  pub response : c.response ≤ 65536

pub config-fits : (c : Config) → config_ok c ≡ true → ConfigFits c
unfolding config_ok
config-fits c h =
    record {
      lifetime = leb-true 1 c.lifetime (search ands);
      upload = leb-true c.upload 16777216 (search ands);
      response = leb-true c.response 65536 (search ands);
    }

each_within : (c : Config) (t : Table) → table_ok c t ≡ true → all (entry_ok c t.clock) t.entries ≡ true
unfolding table_ok
each_within c t h = search ands

-- ---- the verdict by its cases

module _ (c : Config) (s : Sight) (time : ℕ) (n : Lengths) where
  abbrev by-sight : Result ℕ Refusal
  by-sight = verdict_by c s time n

  abbrev numbers : Bool
  numbers = config_ok c && memories_ok c n.upload n.response

  pub off-numbers : numbers ≡ false → Err refusal.OffLimits ≡ by-sight
  unfolding verdict_by
  off-numbers a = rw a

  module _ (a : numbers ≡ true) where
    pub off-message : message_ok n.bare n.payload n.head ≡ false → Err refusal.OffLimits ≡ by-sight
    unfolding verdict_by
    off-message m = rw (a, m)

    pub by_place : message_ok n.bare n.payload n.head ≡ true → verdict_at (ltb time s.clock) s.place ≡ by-sight
    unfolding verdict_by
    by_place m = rw (a, m)

-- ---- the verdict on a table

module _ (c : Config) (t : Table) (time : ℕ) (key : Name) (n : Lengths) where
  abbrev verdict : Result ℕ Refusal
  verdict = verdict_of c t time key n

  abbrev row : List Entry
  row = sweep c.lifetime time t.entries

  abbrev there : ℕ
  there = place key row

  abbrev within : Bool
  within = key_ok key && table_ok c t

  abbrev stands : Bool
  stands = config_ok c && memories_ok c n.upload n.response && message_ok n.bare n.payload n.head

  limits-are : limits_ok c t key n ≡ (stands && within)
  unfolding limits_ok
  limits-are = swap (config_ok c && memories_ok c n.upload n.response) (key_ok key) (message_ok n.bare n.payload n.head) (table_ok c t)
    where
      swap : (x k m z : Bool) → (x && k && m && z) ≡ (x && m && (k && z))
      swap true true m z = refl
      swap true false true z = refl
      swap true false false z = refl
      swap false k m z = refl

  -- what is judged by the sight of a table is judged of the table
  pub verdict-seen : (s : Sight) → Sees c time key t s → verdict_by c s time n ≡ verdict
  unfolding verdict_by verdict_of place_in sight_at
  verdict-seen s h =
      ap (λ (z : Sight). verdict_by c z time n) h.0
      ∙ by_cases within
      (λ f. by_cases stands (λ y. rw (limits-are, f, y)) (λ y. rw (limits-are, f, y)))
      (λ f. by_cases stands (λ y. rw (limits-are, f, y)) (λ y. rw (limits-are, f, y)))

  -- the verdict as the chain of checks 1, 2 and 3
  pub verdict-is : verdict ≡ cond (not (limits_ok c t key n)) (Err refusal.OffLimits) (cond (ltb time t.clock) (Err refusal.ClockBack) (cond (leb 16 there) (Err refusal.TableFull) (Ok there)))
  unfolding verdict_of place_of
  verdict-is =
      by_cases (leb 16 there)
      (λ full. rw (full, le-ltb there 16 (leb-true 16 there full)))
      (λ free. rw (free, lt-ltb there 16 (leb-false 16 there free)))

  -- a place tells that the limits are met, that the clock goes on, and where the key stands
  pub record Placed (i : ℕ) : Type 0 where
    pub limits : limits_ok c t key n ≡ true
    pub clock : t.clock ≤ time
    pub is : i ≡ there
    pub below : i < 16

  pub place-tells : (i : ℕ) → verdict ≡ Ok i → Placed i
  place-tells i h =
      by_cases (limits_ok c t key n)
      (λ l. by_cases (ltb time t.clock)
      (λ e. absurd (refuses refusal.ClockBack (rw (l, e) at chain)))
      (λ e. by_cases (leb 16 there)
      (λ p. absurd (refuses refusal.TableFull (rw (l, e, p) at chain)))
      (λ p.
      let same : there ≡ i = same_place there i (rw (l, e, p) at chain) in
      record { limits = l; clock = ltb-false time t.clock e; is = sym same; below = rw (← same) (leb-false 16 there p) })))
      (λ l. absurd (refuses refusal.OffLimits (rw l at chain)))
    where
      chain : cond (not (limits_ok c t key n)) (Err refusal.OffLimits) (cond (ltb time t.clock) (Err refusal.ClockBack) (cond (leb 16 there) (Err refusal.TableFull) (Ok there))) ≡ Ok i
      chain = sym verdict-is ∙ h

      refuses : (m : Refusal) → Err m ≡ Ok i → ⊥
      refuses m e = let no : ◌≡◌ {A = ℕ} 0 1 = cc in omega arith

      same_place : (j k : ℕ) → ◌≡◌ {A = Result ℕ Refusal} (Ok j) (Ok k) → j ≡ k
      same_place j k e = cc

-- ---- what a place tells

pub record AtPlace (c : Config) (t : Table) (time : ℕ) (key : Name) (n : Lengths) (i : ℕ) : Type 0 where
  pub is : i ≡ place key (sweep c.lifetime time t.entries)
  pub below : i < 16
  pub named : key_ok key ≡ true
  pub headed : n.head ≤ 128
  -- the entry's pieces lie in the memories, which are small
  pub up : i * c.upload + c.upload ≤ n.upload
  pub down : i * c.response + c.response ≤ n.response
  pub small : n.upload + n.response < 2 ^ 32
  -- the row is as a sweep would leave it, or has to be swept
  pub kept : (freed : Bool) → all sized t.entries ≡ true → freed ≡ not (all (unexpired c.lifetime time) t.entries)
      → cond freed (sweep c.lifetime time t.entries) t.entries ≡ sweep c.lifetime time t.entries
  -- what is assembled lies in its piece
  pub holds : length t.entries ≡ 16 → (opened key (sweep c.lifetime time t.entries)).state.assembled.len ≤ c.upload

pub at_place : (c : Config) (t : Table) (time : ℕ) (key : Name) (n : Lengths) (i : ℕ) → verdict_of c t time key n ≡ Ok i → AtPlace c t time key n i
unfolding limits_ok memories_ok message_ok
at_place c t time key n i h =
    let p = place-tells c t time key n i h in
    let l = p.limits in
    let f = config-fits c (search ands) in
    let eu : n.upload ≡ 16 * c.upload = eqb-true n.upload (16 * c.upload) (search ands) in
    let ev : n.response ≡ 16 * c.response = eqb-true n.response (16 * c.response) (search ands) in
    let fits = opened-fits c t time (table_fits c t (search ands)) in
    record {
      is = p.is;
      below = p.below;
      named = search ands;
      headed = leb-true n.head 128 (search ands);
      up = omega (arith, piece-order i 16 c.upload p.below);
      down = omega (arith, piece-order i 16 c.response p.below);
      small = omega arith;
      kept = λ freed. sweep-kept c t.clock c.lifetime time t.entries freed (each_within c t (search ands));
      holds = λ sixteen. assembled-most c _ (fits sixteen p.clock key (search ands) (rw (← p.is) p.below)).state.assembled;
    }

-- ---- what is seen of the table at a place

module _ (c : Config) (s : Sight) (time : ℕ) (key : Name) (n : Lengths) (i : ℕ) (t : Table) (h : HasPlace c s time key n i t) where
  abbrev told : Placed c t time key n i
  told = place-tells c t time key n i h.1

  seen-place : place_in c time key t ≡ At i
  unfolding place_in place_of limits_ok
  seen-place =
      let l = told.limits in
      let k : key_ok key ≡ true = search ands in
      let f : table_ok c t ≡ true = search ands in
      rw (k, f, ← told.is, lt-ltb i 16 told.below)

  pub seen_entry : s.entry ≡ at t.entries i
  unfolding sight_at
  seen_entry = ap (λ (z : Sight). z.entry) h.0.0 ∙ ap (λ (p : Spot). at t.entries (index_of p)) seen-place ∙ rw (lt-ltb i 16 told.below)

  pub seen-others : s.others ≡ held_beside c.lifetime time t.entries i
  unfolding sight_at
  seen-others =
      ap (λ (z : Sight). z.others) h.0.0 ∙ ap (λ (p : Spot). held_beside c.lifetime time t.entries (index_of p)) seen-place ∙ rw (lt-ltb i 16 told.below)

  pub seen-freed : s.freed ≡ not (all (unexpired c.lifetime time) t.entries)
  unfolding sight_at
  seen-freed = ap (λ (z : Sight). z.freed) h.0.0
