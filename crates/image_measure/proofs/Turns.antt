-- What one turn over the entries adds to what is measured. Assumes nothing.
use Prim.Native.Nat.{ℕ, suc, ◌+◌, ◌*◌, ◌^◌, ◌≤◌, ◌<◌}
use mathlib.Core.Bool.{Bool, true, false, cond}
use mathlib.Core.Path.{◌≡◌, refl, sym, ap, ◌∙◌}
use mathlib.Core.List.{List, [], ◌∷◌, ◌++◌, map}
use native.Mathlib.Numerals.{add-one}
use native.Mathlib.Omega.{arith}
use lib.ListN.{length, get_or, set, take, drop, drop_of_length-le}
use lib.Seq.{take-suc, take-suc-set, take_all}
use Rattle.std.specs.Int.{from_bool}
use Rattle.gathering.specs.Gather.{sum}
use Rattle.keys.proofs.Turns.{drop-step}
use Rattle.entries.specs.declared.Entry.{Entry}
use Rattle.entries.proofs.Turns.{nil}
use Rattle.image_format.specs.Rows.{count}
use Rattle.image_format.specs.Image.{assembled_in, cached_in}

-- ---- one more number of a list that is filled in place

map-append : (f : Entry → ℕ) (l k : List Entry) → map f (l ++ k) ≡ map f l ++ map f k
map-append f [] k = refl
map-append f (e ∷ l) k = ap (λ (x : List ℕ). f e ∷ x) (map-append f l k)

module _ (f : Entry → ℕ) (l : List Entry) (m : List ℕ) (i : ℕ) where
  pub map_next : (v : ℕ) → i < length l → i < length m → v ≡ f (get_or l i nil) → take i m ≡ map f (take i l) → take (i + 1) (set m i v) ≡ map f (take (i + 1) l)
  map_next v h k e was =
      rw (add-one, take-suc-set m i v k, take-suc l i nil h, map-append f (take i l) (get_or l i nil ∷ []), e, was)

  pub map_done : length l ≤ i → length m ≤ i → take i m ≡ map f (take i l) → m ≡ map f l
  map_done h k was = sym (take_all i m k) ∙ was ∙ ap (map f) (take_all i l h)

-- ---- what is counted so far, and what is left to count

pub record Measured (l : List Entry) (rows upload response i : ℕ) : Type 0 where
  pub sixteen : length l ≡ 16
  pub turns : i ≤ 16
  pub few : rows ≤ i
  pub most : (upload ≤ i * 2 ^ 34) × (response ≤ i * 2 ^ 34)
  pub rows_left : rows + count (drop i l) ≡ count l
  pub upload-left : upload + sum (assembled_in (drop i l)) ≡ sum (assembled_in l)
  pub response-left : response + sum (cached_in (drop i l)) ≡ sum (cached_in l)

pub measured_start : (l : List Entry) → length l ≡ 16 → Measured l 0 0 0 0
measured_start l h =
    record { sixteen = h; turns = omega arith; few = omega arith; most = (omega arith, omega arith); rows_left = omega arith; upload-left = omega arith; response-left = omega arith }

one-if : (b : Bool) (n : ℕ) → n ≡ from_bool b → (n ≡ cond b 1 0) × (n ≤ 1)
one-if true n e = (e, omega arith)
one-if false n e = (e, omega arith)

count-step : (l : List Entry) (i : ℕ) → i < length l → count (drop i l) ≡ cond (get_or l i nil).used 1 0 + count (drop (i + 1) l)
count-step l i h = rw (drop-step l i nil h) (either (get_or l i nil).used (count (drop (i + 1) l)))
  where
    either : (b : Bool) (n : ℕ) → cond b (suc n) n ≡ cond b 1 0 + n
    either true n = omega arith
    either false n = omega arith

module _ (l : List Entry) (rows upload response i : ℕ) (m : Measured l rows upload response i) where
  pub measured_next : (one a d : ℕ) → i < 16 → one ≡ from_bool (get_or l i nil).used → (a ≡ (get_or l i nil).state.assembled.len) × (a < 2 ^ 34)
      → (d ≡ (get_or l i nil).state.cached.head + (get_or l i nil).state.cached.payload) × (d < 2 ^ 34) → Measured l (rows + one) (upload + a) (response + d) (i + 1)
  measured_next one a d h eo ea ed =
      let n : i < length l = omega (arith, m.sixteen) in
      let row = one-if (get_or l i nil).used one eo in
      let ups : sum (assembled_in (drop i l)) ≡ a + sum (assembled_in (drop (i + 1) l)) = rw (drop-step l i nil n, ea.0) in
      let downs : sum (cached_in (drop i l)) ≡ d + sum (cached_in (drop (i + 1) l)) = rw (drop-step l i nil n, ed.0) in
      record {
        sixteen = m.sixteen;
        turns = omega arith;
        few = omega (arith, m.few, row.1);
        most = (omega (arith, m.most.0, ea.1), omega (arith, m.most.1, ed.1));
        rows_left = omega (arith, m.rows_left, count-step l i n, row.0);
        upload-left = omega (arith, m.upload-left, ups);
        response-left = omega (arith, m.response-left, downs);
      }

  pub measured_done : 16 ≤ i → (rows ≡ count l) × (upload ≡ sum (assembled_in l)) × (response ≡ sum (cached_in l))
  measured_done h =
      let none : drop i l ≡ [] = drop_of_length-le l {i = i} (omega (arith, m.sixteen)) in
      let a : rows + 0 ≡ count l = rw none at m.rows_left in
      let b : upload + 0 ≡ sum (assembled_in l) = rw none at m.upload-left in
      let c : response + 0 ≡ sum (cached_in l) = rw none at m.response-left in
      (omega arith, omega arith, omega arith)
