-- At most sixteen keys have sixteen entries: where all keys in use are among sixteen, each of them has a place. Assumes nothing.
use Prim.Native.Nat.{ℕ, zero, suc, ◌≤◌, ◌<◌}
use mathlib.Core.Bool.{true, false, cond, false≢true}
use mathlib.Core.Path.{◌≡◌, sym, ◌∙◌, ap}
use mathlib.Core.List.{List, [], ◌∷◌}
use native.Mathlib.Omega.{arith}
use lib.ListN.{length, get_or-eq_default}
use lib.Dec.{ltb}
use borrow.Author.Tests.{ltb-true, ltb-false, not-false}
use Rattle.pieces.proofs.Tests.{by_cases, on_test, clash-of, refute}
use Rattle.config.specs.declared.Config.{Config}
use Rattle.block_state.specs.declared.BlockState.{BlockState}
use Rattle.block_state.specs.Message.{What, request, response}
use Rattle.keys.specs.Lists.{find}
use Rattle.keys.specs.Keys.{Name, same, key_of}
use Rattle.keys.proofs.Lists.{find-before}
use Rattle.keys.proofs.Keys.{same-eq}
use Rattle.entries.specs.declared.Entry.{Entry}
use Rattle.entries.specs.Entries.{free, in_use, holds, live, swept, unused}
use Rattle.entries.proofs.Entries.{holds-own}
use Rattle.block_table.specs.Table.{at}
use Rattle.block_table.proofs.Row.{Unique, at-sweep, at_set}
use Rattle.block_table.proofs.TableFits.{row, row-length, row-unique}
use Rattle.key_place.specs.Place.{place}
use Rattle.places.proofs.Places.{place-most, place-new, place-unheld, opened-key}
use Rattle.call.specs.Call.{World, Call, Done, call_at, row_of, call}
use Rattle.call.proofs.Frame.{WorldFits, call_fits, call-cases}
use Rattle.one_call.specs.Handler.{entry_at}
use Rattle.one_call.proofs.Outcomes.{place_of, opened_of}
use Rattle.demands.specs.Demand3.{after, AllBytes}
use Rattle.many_calls.specs.Crossing.{among, AllAmong}

-- ---- a list of keys without one

abbrev without : Name → List Name → List Name
without k [] = []
without k (y ∷ keys) = cond (same k y) keys (y ∷ without k keys)

length_without : (k : Name) (keys : List Name) → among k keys ≡ true → length keys ≡ suc (length (without k keys))
length_without k [] h = absurd (false≢true h)
length_without k (y ∷ keys) h =
    by_cases (same k y) (λ e. rw e) (λ n. let m : among k keys ≡ true = rw n at h in rw n (ap suc (length_without k keys m)))

among-without : (a k : Name) (keys : List Name) → same a k ≡ false → among a keys ≡ true → among a (without k keys) ≡ true
among-without a k [] ne h = h
among-without a k (y ∷ keys) ne h =
    by_cases (same k y)
    (λ e.
    let z : k ≡ y = same-eq k y e in
    let n : same a y ≡ false = rw z at ne in
    rw e (rw n at h))
    (λ n. by_cases (same a y) (λ t. rw (n, t)) (λ f. let m : among a keys ≡ true = rw f at h in rw (n, f) (among-without a k keys ne m)))

-- n keys, each among those of a list and no two the same: the list has n at least
pigeon : (f : ℕ → List ℕ) (n : ℕ) (keys : List Name) → ((i : ℕ) → i < n → among (f i) keys ≡ true)
    → ((i j : ℕ) → i < n → j < n → f i ≡ f j → i ≡ j) → n ≤ length keys
pigeon f zero keys h one = omega arith
pigeon f (suc n) keys h one =
    let here = h n (omega arith) in
    let less : n ≤ length (without (f n) keys) =
    pigeon f n (without (f n) keys)
    (λ i b. among-without (f i) (f n) keys
    (refute (same (f i) (f n)) (λ t. let e : i ≡ n = one i n (omega arith) (omega arith) (same-eq (f i) (f n) t) in omega arith)) (h i (omega arith)))
    (λ i j a b e. one i j (omega arith) (omega arith) e) in
    omega (arith, length_without (f n) keys here)

-- ---- what holds of every entry

-- a call leaves each entry as it was, frees it, or puts one in use for its own key
call-entries : (P : Entry → Type 0) (c : Config) (w : World) (q : Call) → WorldFits c w → P free
    → ((s : BlockState) → P (in_use (opened_of c w q).key q.time s)) → ((i : ℕ) → i < 16 → P (entry_at w i))
    → (i : ℕ) → i < 16 → P (entry_at (call c w q).world i)
unfolding call_at swept
call-entries P c w q f none new old =
    call-cases (λ (d : Done). (i : ℕ) → i < 16 → P (entry_at d.world i)) c w q (λ n. old)
    (λ named ok later p. placed p q.what)
  where
    long : length (row_of c w q) ≡ 16
    long = row-length c w.table q.time f.table f.sixteen

    each : (i : ℕ) → i < 16 → P (at (row_of c w q) i)
    each i b = rw (at-sweep c.lifetime q.time w.table.entries i) (on_test P (live c.lifetime q.time (entry_at w i)) (λ _. old i b) (λ _. none))

    placed : place_of c w q < 16 → (y : What) → (i : ℕ) → i < 16
        → P (entry_at (call_at c w q.time (row_of c w q) (place_of c w q) (opened_of c w q) y).world i)
    placed p (request r) i b =
        at_set (row_of c w q) (place_of c w q) _ (omega (arith, long)) (λ j e. P e) (new _) (λ j h ne. each j (omega (arith, long))) i (omega (arith, long))
    placed p (response r) i b =
        at_set (row_of c w q) (place_of c w q) _ (omega (arith, long)) (λ j e. P e) (new _) (λ j h ne. each j (omega (arith, long))) i (omega (arith, long))

-- ---- the keys in use are among these

abbrev pub Over : List Name → World → Type 0
Over keys w = (i : ℕ) → i < 16 → (entry_at w i).used ≡ true → among (key_of (entry_at w i).key) keys ≡ true

module _ (c : Config) (w : World) (keys : List Name) (f : WorldFits c w) (over : Over keys w) where
  pub over-call : (q : Call) → among q.key keys ≡ true → Over keys (call c w q).world
  over-call q h =
      call-entries (λ e. e.used ≡ true → among (key_of e.key) keys ≡ true) c w q f (λ u. absurd (false≢true u))
      (λ s u. rw (opened-key q.key (row_of c w q) (row-length c w.table q.time f.table f.sixteen)) h) over

  module _ (k : Name) (time : ℕ) (few : length keys ≤ 16) (mine : among k keys ≡ true) where
    abbrev found : List Entry
    found = row c w.table time

    found-16 : length found ≡ 16
    found-16 = row-length c w.table time f.table f.sixteen

    over-row : (i : ℕ) → i < 16 → (at found i).used ≡ true → among (key_of (at found i).key) keys ≡ true
    unfolding swept
    over-row i b =
        rw (at-sweep c.lifetime time w.table.entries i)
        (on_test (λ (e : Entry). e.used ≡ true → among (key_of e.key) keys ≡ true) (live c.lifetime time (entry_at w i)) (λ _. over i b) (λ _ u. absurd (false≢true u)))

    -- a full row in which the key has no entry: sixteen keys among the fifteen others
    crowded : ((i : ℕ) → i < 16 → (at found i).used ≡ true) → ((i : ℕ) → i < 16 → holds k (at found i) ≡ false) → ⊥
    unfolding Unique
    crowded used none =
        let n : 16 ≤ length (without k keys) =
        pigeon (λ i. key_of (at found i).key) 16 (without k keys)
        (λ i b. among-without (key_of (at found i).key) k keys
        (refute (same (key_of (at found i).key) k) (λ t.
        clash-of (holds k (at found i)) (rw (← (same-eq (key_of (at found i).key) k t)) (holds-own (at found i) (used i b))) (none i b)))
        (over-row i b (used i b)))
        (λ i j a b e.
        row-unique-at (key_of (at found i).key) i j a b (holds-own (at found i) (used i a)) (rw e (holds-own (at found j) (used j b)))) in
        omega (arith, length_without k keys mine)
      where
        row-unique-at : (y : List ℕ) (i j : ℕ) → i < 16 → j < 16 → holds y (at found i) ≡ true → holds y (at found j) ≡ true → i ≡ j
        row-unique-at y i j a b = row-unique c w.table time f.table f.sixteen y i j (omega (arith, found-16)) (omega (arith, found-16))

    -- EACH OF THEM HAS A PLACE
    pub has-place : place k found < 16
    has-place =
        by_cases (ltb (place k found) 16) (λ y. ltb-true (place k found) 16 y)
        (λ n.
        let e : place k found ≡ 16 = omega (arith, place-most k found found-16, ltb-false (place k found) 16 n) in
        let off : (at found (place k found)).used ≡ false = rw e (past found found-16) in
        let none : (i : ℕ) → i < 16 → holds k (at found i) ≡ false = place-new k found found-16 off in
        let m : find unused found ≡ 16 = sym (place-unheld k found found-16 none) ∙ e in
        absurd (crowded (λ i b. not-false (at found i).used (find-before unused free found i (omega arith))) none))
      where
        past : (l : List Entry) → length l ≡ 16 → (at l 16).used ≡ false
        past l h = rw (get_or-eq_default l free {n = 16} (omega arith))

pub over-after : (c : Config) (keys : List Name) (calls : List Call) (w : World) → WorldFits c w → AllBytes calls → AllAmong keys calls → Over keys w
    → Over keys (after call c w calls)
over-after c keys [] w f ab aa over = over
over-after c keys (q ∷ calls) w f ab aa over =
    over-after c keys calls (call c w q).world (call_fits c w q ab.0 f) ab.1 aa.1 (over-call c w keys f over q aa.0)
