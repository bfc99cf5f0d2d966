-- Two rows of entries that are twins, pairwise: what a call finds in two worlds that are alike. They place a key alike and open the same entry for it, and what is put back leaves twins.
-- Assumes nothing.
use Prim.Native.Nat.{ℕ, suc, ◌+◌, ◌-◌, ◌*◌, ◌≤◌, ◌<◌}
use mathlib.Core.Bool.{Bool, true, false}
use mathlib.Core.Path.{◌≡◌, refl, sym, ◌∙◌}
use mathlib.Core.Logic.{◌≢◌}
use mathlib.Core.List.{List, [], ◌∷◌}
use native.Mathlib.Omega.{arith}
use native.Mathlib.Decide.{ℕ_discrete}
use lib.ListN.{length, set}
use borrow.Author.Tests.{ltb-true}
use Rattle.pieces.specs.Memory.{piece_of, put_piece}
use Rattle.pieces.proofs.Memory.{piece-order, length-piece, length-put, piece-put-same, piece-put-other}
use Rattle.pieces.proofs.Tests.{ands, by_cases, clash-of, refute}
use Rattle.config.specs.declared.Config.{Config}
use Rattle.keys.specs.Lists.{find}
use Rattle.keys.specs.Keys.{Name, key_of}
use Rattle.entries.specs.declared.Entry.{Entry}
use Rattle.entries.specs.Entries.{holds, unused, live, swept, sweep}
use Rattle.entries.proofs.Entries.{live-used, used-live, swept-live, swept-dead}
use Rattle.block_table.specs.Table.{at}
use Rattle.block_table.proofs.Row.{at-sweep, at_set_same, at_set_other}
use Rattle.key_place.specs.Place.{place}
use Rattle.places.specs.Places.{opened}
use Rattle.places.proofs.Places.{opened-own, opened-new}
use Rattle.call.specs.Call.{World}
use Rattle.one_call.specs.Handler.{entry_at}
use Rattle.alike.specs.Alike.{InLimits, live_at, Alike}
use Rattle.alike.proofs.Steps.{Piece, Holds}

pub record Twin (e e' : Entry) (u u' d d' : List ℕ) : Type 0 where
  pub used : e.used ≡ e'.used
  pub long : e.key.len ≡ e'.key.len
  pub key : key_of e.key ≡ key_of e'.key
  pub touched : e.touched ≡ e'.touched
  pub state : e.state ≡ e'.state
  pub holds : Holds e.state u u' d d'

-- entry i of two worlds, with its pieces
abbrev pub TwinAt : Config → World → World → ℕ → Entry → Entry → Type 0
TwinAt c w v i e e' =
    Twin e e' (piece_of c.upload i w.upload) (piece_of c.upload i v.upload) (piece_of c.response i w.response) (piece_of c.response i v.response)

abbrev pub Rows : Config → World → World → List Entry → List Entry → Type 0
Rows c w v r r' = (i : ℕ) → TwinAt c w v i (at r i) (at r' i)

itself : {e : Entry} {u u' d d' : List ℕ} → Holds e.state u u' d d' → Twin e e u u' d d'
itself h = record { used = refl; long = refl; key = refl; touched = refl; state = refl; holds = h }

-- ---- what twins make of a key

find-same : (p : Entry → Bool) (l l' : List Entry) → length l ≡ length l' → ((i : ℕ) → p (at l i) ≡ p (at l' i)) → find p l ≡ find p l'
find-same p [] [] n h = refl
find-same p [] (f ∷ l') n h = absurd (omega arith)
find-same p (e ∷ l) [] n h = absurd (omega arith)
find-same p (e ∷ l) (f ∷ l') n h =
    let first : p e ≡ p f = h 0 in
    rw (first, find-same p l l' (omega arith) (λ i. h (suc i)))

module _ (c : Config) (w v : World) (r r' : List Entry) (long : length r ≡ length r') (rows : Rows c w v r r') (k : Name) where
  pub place_same : place k r ≡ place k r'
  unfolding place holds
  place_same =
      let held : find (holds k) r ≡ find (holds k) r' = find-same (holds k) r r' long (λ i. rw ((rows i).used, (rows i).key)) in
      let lowest : find unused r ≡ find unused r' = find-same unused r r' long (λ i. rw (rows i).used) in
      rw (held, lowest)

  pub opened-twin : TwinAt c w v (place k r) (opened k r) (opened k r')
  opened-twin =
      let i : ℕ = place k r in
      let there : TwinAt c w v i (at r i) (at r' (place k r')) = rw (← place_same) (rows i) in
      by_cases (at r i).used
      (λ y. rw (opened-own k r y, opened-own k r' (sym there.used ∙ y)) there)
      (λ n. rw (opened-new k r n, opened-new k r' (sym there.used ∙ n)) (itself (refl, refl)))

-- ---- the rows that a call finds in two worlds that are alike

-- an entry that is not live does not come to life
dead-later : (lifetime clock time : ℕ) (e : Entry) → clock ≤ time → live lifetime clock e ≡ false → live lifetime time e ≡ false
unfolding live
dead-later lifetime clock time e h n =
    refute (live lifetime time e)
    (λ y.
    let soon : time - e.touched < lifetime = ltb-true (time - e.touched) lifetime (search ands) in
    clash-of (live lifetime clock e) (used-live lifetime clock e (live-used lifetime time e y) (omega arith)) n)

-- whether an entry is live depends on nothing but its use and its touch
live_same : (lifetime time : ℕ) (e e' : Entry) → e.used ≡ e'.used → e.touched ≡ e'.touched → live lifetime time e ≡ live lifetime time e'
unfolding live
live_same lifetime time e e' u t = rw (u, t)

module _ (c : Config) (w v : World) (a : Alike c w v) (time : ℕ) (later : w.table.clock ≤ time) where
  live-twin : (i : ℕ) → live_at c w i ≡ true → TwinAt c w v i (entry_at w i) (entry_at v i)
  live-twin i y =
      let s = a.same i y in
      record {
        used = live-used c.lifetime w.table.clock (entry_at w i) y ∙ sym (live-used c.lifetime v.table.clock (entry_at v i) (sym (a.lives i) ∙ y));
        long = s.long;
        key = s.key;
        touched = s.touched;
        state = s.state;
        holds = (s.assembled ∙ rw s.state, s.cached ∙ rw s.state);
      }

  -- at each index both rows have the two worlds' entries, or both are free
  pub alike-rows : Rows c w v (sweep c.lifetime time w.table.entries) (sweep c.lifetime time v.table.entries)
  alike-rows i =
      rw (at-sweep c.lifetime time w.table.entries i, at-sweep c.lifetime time v.table.entries i)
      (by_cases (live_at c w i)
      (λ y.
      let t = live-twin i y in
      let both = live_same c.lifetime time (entry_at w i) (entry_at v i) t.used t.touched in
      by_cases (live c.lifetime time (entry_at w i))
      (λ l. rw (swept-live c.lifetime time (entry_at w i) l, swept-live c.lifetime time (entry_at v i) (sym both ∙ l)) t)
      (λ n. freed n (sym both ∙ n)))
      (λ n. freed (dead-later c.lifetime w.table.clock time (entry_at w i) later n)
      (dead-later c.lifetime v.table.clock time (entry_at v i) (rw (← a.clock) later) (sym (a.lives i) ∙ n))))
    where
      freed : live c.lifetime time (entry_at w i) ≡ false → live c.lifetime time (entry_at v i) ≡ false
          → TwinAt c w v i (swept c.lifetime time (entry_at w i)) (swept c.lifetime time (entry_at v i))
      freed n n' = rw (swept-dead c.lifetime time (entry_at w i) n, swept-dead c.lifetime time (entry_at v i) n') (itself (refl, refl))

-- ---- the rows that a call leaves

-- memory x is m with p as its piece i
pub record Puts (n i : ℕ) (m p x : List ℕ) : Type 0 where
  pub here : Piece n i x p
  pub others : (j : ℕ) → j ≢ i → piece_of n j x ≡ piece_of n j m

module _ (n i : ℕ) (m : List ℕ) (slot : i < 16) (long : length m ≡ 16 * n) where
  room : i * n + n ≤ length m
  room = omega (arith, piece-order i 16 n slot)

  pub piece-long : length (piece_of n i m) ≡ n
  piece-long = length-piece n m i room

  pub puts : (p : List ℕ) → length p ≡ n → Puts n i m p (put_piece n i p m)
  puts p full =
      record {
        here = record { room = rw (length-put n m i room p full) room; is = piece-put-same n m i room p full };
        others = λ j ne. piece-put-other n m i room p full j (λ e. ne (sym e));
      }

  pub puts-nothing : Puts n i m (piece_of n i m) m
  puts-nothing = record { here = record { room = room; is = refl }; others = λ j ne. refl }

pub set-rows : (c : Config) (w v x y : World) (r r' : List Entry) (i : ℕ) {e e' : Entry} {u u' d d' : List ℕ} → Rows c w v r r' → i < length r → i < length r' → Twin e e' u u' d d'
    → Puts c.upload i w.upload u x.upload → Puts c.upload i v.upload u' y.upload
    → Puts c.response i w.response d x.response → Puts c.response i v.response d' y.response → Rows c x y (set r i e) (set r' i e')
set-rows c w v x y r r' i {e} {e'} rows b b' twin pu pu' pd pd' j =
    elim (ℕ_discrete j i) [
      | yes is ↦ rw (is, at_set_same r i e b, at_set_same r' i e' b', pu.here.is, pu'.here.is, pd.here.is, pd'.here.is) twin
      | no ne ↦ rw (at_set_other r i e b j ne, at_set_other r' i e' b' j ne, pu.others j ne, pu'.others j ne, pd.others j ne, pd'.others j ne) (rows j)
    ]

-- worlds whose rows are twins are alike
pub rows_alike : (c : Config) (w v : World) → w.table.clock ≡ v.table.clock → Rows c w v w.table.entries v.table.entries → InLimits c w → InLimits c v → Alike c w v
rows_alike c w v clock rows left right =
    record {
      left = left;
      right = right;
      clock = clock;
      lives = λ i. live_same c.lifetime w.table.clock (entry_at w i) (entry_at v i) (rows i).used (rows i).touched ∙ rw clock;
      same = λ i _.
          let t = rows i in
          record { long = t.long; key = t.key; touched = t.touched; state = t.state; assembled = t.holds.0 ∙ rw t.state; cached = t.holds.1 ∙ rw t.state };
    }
