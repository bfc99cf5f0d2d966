-- What a walk over the row sees, turn by turn, and the place that follows from it. Assumes nothing.
use mathlib.Core.Path.{◌≡◌, refl, sym, ap, ◌∙◌}
use mathlib.Core.List.{List, map}
use mathlib.Core.Bool.{Bool, true, false, not, cond, ◌&&◌, ◌||◌, false≢true}
use Prim.Native.Nat.{ℕ, ◌+◌, ◌-◌, ◌*◌, ◌^◌, ◌≤◌, ◌<◌}
use native.Mathlib.Nat.{add_assoc, add-zero}
use native.Mathlib.Omega.{arith}
use lib.ListN.{length, get_or, drop, drop_of_length-le}
use lib.Dec.{eqb}
use Rattle.std.specs.Prelude.{Option, Some, None}
use Rattle.std.specs.Option.{option_or}
use Rattle.key_place.specs.Place.{row_index}
use Rattle.key_place.proofs.Unswept.{row_index-here, row_index-some, row_index-none}
use Rattle.tags.specs.Tags.{pairs}
use Rattle.config.specs.declared.Config.{Config}
use Rattle.pieces.proofs.Tests.{and_left, and_right, by_cases}
use Rattle.keys.specs.Lists.{find, all}
use Rattle.keys.specs.Keys.{Name, key_ok, tag_of}
use Rattle.keys.proofs.Turns.{drop-step, all_go, all_end, find-go, find-here}
use Rattle.entries.specs.declared.Entry.{Entry}
use Rattle.entries.specs.Entries.{free as unheld, entry_ok, live, swept, sweep}
use Rattle.entries.specs.Held.{held_by, held as held_all}
use Rattle.entries.proofs.Held.{held-unused, free-holds, swept-holds, held_at}
use Rattle.entries.specs.Quick.{holds_live, not_live, sized, unexpired}
use Rattle.entries.proofs.Entries.{swept-live, swept-dead}
use Rattle.entries.proofs.Cases.{or-true, live-unexpired, free-unexpired, expired}
use Rattle.block_table.specs.declared.Table.{Table}
use Rattle.block_table.specs.Table.{distinct, figure_ok, at}
use Rattle.block_table.specs.Quick.{tags_from}
use Rattle.entries.proofs.Turns.{nil}
use Rattle.block_table.proofs.Row.{length-sweep, at-sweep}
use Rattle.block_table.proofs.Turns.{get_d_any, freed-go, freed-end}
use Rattle.places.specs.declared.Seen.{Seen}
use Rattle.places.specs.declared.Sight.{Sight}
use Rattle.places.specs.declared.Place.{Place}
use Rattle.places.specs.declared.Place.TheVariants.{OffLimits}
use Rattle.places.specs.Places.{standing, place_of}
use Rattle.places.specs.Sight.{place_in, index_of, sight_at, seen_next, quick_place, settled}
use Rattle.places.proofs.Cases.{each as within, off-each, by_bytes, by-own, by-none}

and_assoc : (x y z : Bool) → ((x && y) && z) ≡ (x && (y && z))
and_assoc true y z = refl
and_assoc false y z = refl

and-true : (x : Bool) → (x && true) ≡ x
and-true true = refl
and-true false = refl

not-not : (b : Bool) → not (not b) ≡ b
not-not true = refl
not-not false = refl

or-false : (x : Bool) → (x || false) ≡ x
or-false true = refl
or-false false = refl

-- what one turn makes of what was seen, by what the code tests: the entry is live, expired or free
module _ (c : Config) (clock time : ℕ) (s : Seen) (i : ℕ) (e : Entry) (ok : Bool) (n : ℕ) (is_ok : ok ≡ entry_ok c clock e) (is_held_lem : n ≡ held_by e) where
  abbrev lives : Bool
  lives = live c.lifetime time e

  pub seen-live : lives ≡ true
      → ◌≡◌ {A = Seen} (record { ok = s.ok && ok; freed = s.freed; free = s.free; counted = s.counted + n; gone = s.gone }) (seen_next c clock time s i e)
  seen-live y =
      let freed : s.freed ≡ (s.freed || not (unexpired c.lifetime time e)) = rw (live-unexpired c.lifetime time e y, or-false s.freed) in
      let free : s.free ≡ cond (not lives) (option_or s.free (Some i)) s.free = rw y in
      let gone : s.gone ≡ s.gone + (held_by e - held_by (swept c.lifetime time e)) = rw (swept-live c.lifetime time e y) (omega arith) in
      λ k. record { ok = s.ok && is_ok k; freed = freed k; free = free k; counted = s.counted + is_held_lem k; gone = gone k }

  module _ (r : Option ℕ) (dead : lives ≡ false) (is_free : r ≡ option_or s.free (Some i)) where
    first : r ≡ cond (not lives) (option_or s.free (Some i)) s.free
    first = is_free ∙ rw dead

    pub seen-expired : e.used ≡ true
        → ◌≡◌ {A = Seen} (record { ok = s.ok && ok; freed = true; free = r; counted = s.counted + n; gone = s.gone + n }) (seen_next c clock time s i e)
    seen-expired u =
        let freed : true ≡ (s.freed || not (unexpired c.lifetime time e)) = rw (expired c.lifetime time e u dead, or-true s.freed) in
        let gone : s.gone + n ≡ s.gone + (held_by e - held_by (swept c.lifetime time e)) = rw (is_held_lem, swept-dead c.lifetime time e dead, free-holds) (omega arith) in
        λ k. record { ok = s.ok && is_ok k; freed = freed k; free = first k; counted = s.counted + is_held_lem k; gone = gone k }

    pub seen-free : e.used ≡ false
        → ◌≡◌ {A = Seen} (record { ok = s.ok && ok; freed = s.freed; free = r; counted = s.counted + n; gone = s.gone }) (seen_next c clock time s i e)
    seen-free u =
        let freed : s.freed ≡ (s.freed || not (unexpired c.lifetime time e)) = rw (free-unexpired c.lifetime time e u, or-false s.freed) in
        let gone : s.gone ≡ s.gone + (held_by e - held_by (swept c.lifetime time e)) = rw (held-unused e u) (omega arith) in
        λ k. record { ok = s.ok && is_ok k; freed = freed k; free = first k; counted = s.counted + is_held_lem k; gone = gone k }

-- ---- the walk

module _ (c : Config) (clock time : ℕ) (l : List Entry) (named : Bool) where
  abbrev good : Entry → Bool
  good = entry_ok c clock

  abbrev fresh : Entry → Bool
  fresh = unexpired c.lifetime time

  abbrev dead : Entry → Bool
  dead = not_live c.lifetime time

  abbrev left : Entry → Entry
  left = swept c.lifetime time

  -- what is seen of the first i entries, with what the others add
  pub record Walked (s : Seen) (i : ℕ) : Type 0 where
    pub ok : (s.ok && all good (drop i l)) ≡ (named && all good l)
    pub freed : (s.freed || not (all fresh (drop i l))) ≡ not (all fresh l)
    pub free : option_or s.free (row_index (i + find dead (drop i l))) ≡ row_index (find dead l)
    pub long : all sized (drop i l) ≡ all sized l
    pub counted : s.counted + held_all (drop i l) ≡ held_all l
    pub kept : s.counted + held_all (map left (drop i l)) ≡ s.gone + held_all (map left l)
    pub counted-most : s.counted ≤ i * 2 ^ 34
    pub gone-most : s.gone ≤ i * 2 ^ 34

  -- what is seen of them all
  pub record Ended (s : Seen) : Type 0 where
    pub ok : s.ok ≡ (named && all good l)
    pub freed : s.freed ≡ not (all fresh l)
    pub free : s.free ≡ row_index (find dead l)
    pub long : all sized l ≡ true
    pub counted : s.counted ≡ held_all l
    pub kept : s.counted ≡ s.gone + held_all (map left l)
    pub few : s.counted < 2 ^ 60

  module _ (s : Seen) (i : ℕ) (was : Walked s i) where
    module _ (h : i < length l) (sixteen : length l ≡ 16) where
      abbrev e : Entry
      e = get_or l i nil

      still : (f : Option ℕ) (z : Bool) → dead e ≡ z → option_or f (row_index (i + find dead (drop i l))) ≡ row_index (find dead l)
          → option_or (cond z (option_or f (Some i)) f) (row_index ((i + 1) + find dead (drop (i + 1) l))) ≡ row_index (find dead l)
      still (Some f) true g was = was
      still (Some f) false g was = was
      still None true g was = row_index-here (find-here dead l i nil _ h g refl) (omega arith) ∙ was
      still None false g was = ap row_index (find-go dead l i nil _ h g refl) ∙ was

      pub walk-goes : (n : Seen) → n ≡ seen_next c clock time s i e → sized e ≡ true → held_by e < 2 ^ 34 → Walked n (i + 1)
      unfolding held_all
      walk-goes n is z few =
          rw is (record {
            ok = and_assoc s.ok (good e) (all good (drop (i + 1) l)) ∙ rw (drop-step l i nil h) at was.ok;
            freed = freed-go fresh l i s.freed (not (all fresh l)) (not (fresh e)) h (sym (not-not (fresh e))) was.freed;
            free = still s.free (dead e) refl was.free;
            long = all_go sized l i nil h z ∙ was.long;
            counted = add_assoc s.counted (held_by e) (held_all (drop (i + 1) l)) ∙ rw (drop-step l i nil h) at was.counted;
            kept =
                let was-kept : s.counted + (held_by (left e) + held_all (map left (drop (i + 1) l))) ≡ s.gone + held_all (map left l) = rw (drop-step l i nil h) at was.kept in
                omega (arith, was-kept, swept-holds c.lifetime time e);
            counted-most = omega (arith, was.counted-most, few);
            gone-most = omega (arith, was.gone-most, few);
          })

    module _ (h : length l ≤ i) (low : i ≤ 16) (sixteen : length l ≡ 16) where
      at-end : (f : Option ℕ) → option_or f (row_index (i + find dead (drop i l))) ≡ row_index (find dead l) → f ≡ row_index (find dead l)
      at-end (Some f) was = was
      at-end None was =
          let z : find dead (drop i l) ≡ 0 = rw (drop_of_length-le l h) in
          let end : i + find dead (drop i l) ≡ 16 = omega arith in
          rw end at was

      pub walk_ends : Ended s
      unfolding held_all
      walk_ends =
          record {
            ok = sym (and-true s.ok) ∙ rw (all_end good l i h) at was.ok;
            freed = freed-end fresh l i s.freed (not (all fresh l)) h was.freed;
            free = at-end s.free was.free;
            long = sym was.long ∙ all_end sized l i h;
            counted = sym (add-zero s.counted) ∙ rw (drop_of_length-le l h) at was.counted;
            kept = sym (add-zero s.counted) ∙ rw (drop_of_length-le l h) at was.kept;
            few = omega (arith, was.counted-most);
          }

-- ---- the place

-- the first entry with the key's tag holds it
abbrev pub held-first : ℕ → ℕ → Name → List Entry → Option ℕ → Bool
held-first lifetime time k l (Some i) = holds_live lifetime time k (get_or l i nil)
held-first lifetime time k l None = false

-- the figure is the row's exactly if it is what the walk counted
pub within_all : (t : Table) (ok named key all : Bool) (n : ℕ) → named ≡ key → ok ≡ (named && all) → n ≡ held_all t.entries → (ok && eqb t.held n) ≡ (key && (all && figure_ok t))
unfolding figure_ok
within_all t ok named key all n same is counted = rw (is, same, counted) (and_assoc key all (eqb t.held (held_all t.entries)))

module _ (c : Config) (t : Table) (k : Name) (time : ℕ) where
  abbrev row : List Entry
  row = t.entries

  abbrev each : Bool
  each = within c t k c.lifetime time

  off : (named some : Bool) → key_ok k ≡ named → each ≡ some → (named && some) ≡ false → OffLimits ≡ place_in c time k t
  unfolding place_in
  off true some n e h = rw n (sym (off-each c t k c.lifetime time (e ∙ h)))
  off false some n e h = rw n

  -- q is the key as the code has it, and `own` its tag
  module _ (q : Name) (well : Bool) (none : Option ℕ) (tags : List ℕ) (own : ℕ) (first : Option ℕ) (held : Bool) (sixteen : length row ≡ 16)
      (ok : well ≡ (key_ok k && each)) (free : none ≡ row_index (find (not_live c.lifetime time) row)) (read : key_ok k ≡ true → q ≡ k)
      (tag : key_ok k ≡ true → own ≡ tag_of k) (are : tags ≡ tags_from 0 row) (is : first ≡ row_index (find (λ x. eqb x own) tags))
      (holds : held ≡ held-first c.lifetime time q row first) where
    -- where all is within the limits
    module _ (h : (key_ok k && each) ≡ true) where
      key-ok : key_ok k ≡ true
      key-ok = and_left (key_ok k) each h

      row_ok : each ≡ true
      row_ok = and_right (key_ok k) each h

      by-tag : eqb (pairs tags tags) 16 ≡ true → (f : Option ℕ) → f ≡ row_index (find (λ x. eqb x own) tags) → (b : Bool) → held-first c.lifetime time q row f ≡ b
          → standing (cond b (option_or f none) none) ≡ place_in c time k t
      unfolding place_in
      by-tag apart (Some i) told true y =
          let at = row_index-some _ (sym told) in
          rw key-ok (by-own c t k c.lifetime time tags own i sixteen row_ok are apart (tag key-ok) at.0 _ refl (rw (read key-ok) at y) at.1)
      by-tag apart (Some i) told false n =
          let at = row_index-some _ (sym told) in
          rw (key-ok, free) (by-none c t k c.lifetime time tags own i sixteen row_ok are apart (tag key-ok) at.0 (λ below. rw (read key-ok) at n))
      by-tag apart None told true y = absurd (false≢true y)
      by-tag apart None told false n =
          let past = row_index-none _ (sym told) in
          rw (key-ok, free) (by-none c t k c.lifetime time tags own _ sixteen row_ok are apart (tag key-ok) refl (λ below. absurd (omega arith)))

      -- where two tags are equal, byte by byte
      by_all : cond (distinct row) (place_of q (sweep c.lifetime time row)) OffLimits ≡ place_in c time k t
      unfolding place_in
      by_all = rw (key-ok, read key-ok) (sym (by_bytes c t k c.lifetime time (distinct row) row_ok refl))

    -- the quick look tells the place, or what is found byte by byte is
    pub place-seen : (apart : Bool) (v : Option Place) → apart ≡ eqb (pairs tags tags) 16 → v ≡ quick_place well none apart first held
        → settled v (cond (distinct row) (place_of q (sweep c.lifetime time row)) OffLimits) ≡ place_in c time k t
    place-seen apart v told quick =
        rw quick
        (by_cases well
        (λ y. by_cases apart (λ z. rw (y, z) (by-tag (sym ok ∙ y) (sym told ∙ z) first is held (sym holds))) (λ z. rw (y, z) (by_all (sym ok ∙ y))))
        (λ y. rw y (off (key_ok k) each refl refl (sym ok ∙ y))))

-- ---- the sight

pub sight-is : (c : Config) (time : ℕ) (t : Table) (p q : Place) (r : ℕ) (freed : Bool) (bytes gone own : ℕ) → p ≡ q → r ≡ index_of p → r < 16 → length t.entries ≡ 16
    → freed ≡ not (all (unexpired c.lifetime time) t.entries) → bytes ≡ gone + held_all (map (swept c.lifetime time) t.entries)
    → own ≡ held_by (swept c.lifetime time (get_or t.entries r nil))
    → ◌≡◌ {A = Sight} (record { clock = t.clock; held = t.held; place = p; at = r; entry = get_or t.entries r nil; freed = freed; others = bytes - gone - own }) (sight_at c time t q)
unfolding sight_at sweep
sight-is c time t p q r freed bytes gone own is-place is-index below sixteen is-freed is-kept is-own =
    let index : r ≡ index_of q = is-index ∙ ap (λ (z : Place). index_of z) is-place in
    let entry : get_or t.entries r nil ≡ at t.entries (index_of q) = get_d_any t.entries r nil unheld (omega arith) ∙ ap (at t.entries) index in
    let beside = is-own ∙ ap (λ (e : Entry). held_by (swept c.lifetime time e)) entry in
    let left : bytes - gone ≡ held_all (map (swept c.lifetime time) t.entries) = omega (arith, is-kept) in
    λ k. record { clock = t.clock; held = t.held; place = is-place k; at = index k; entry = entry k; freed = is-freed k; others = left k - beside k }

-- what the entry at an index holds is among what is kept
pub beside-least : (l : List Entry) (r : ℕ) (lifetime time bytes gone : ℕ) → r < length l → bytes ≡ gone + held_all (map (swept lifetime time) l)
    → held_by (swept lifetime time (get_or l r nil)) ≤ bytes - gone
unfolding sweep
beside-least l r lifetime time bytes gone below is =
    let left : bytes - gone ≡ held_all (map (swept lifetime time) l) = omega (arith, is) in
    rw (left, get_d_any l r nil unheld below, ← at-sweep lifetime time l r) (held_at (sweep lifetime time l) r (rw (length-sweep lifetime time l) below))
