-- What the options leave of the room: by one option, and by all of them, one after another. Assumes nothing.
use mathlib.Core.Path.{◌≡◌, refl, sym, ap, ◌∙◌}
use mathlib.Core.Bool.{Bool, true, false, cond, ◌&&◌, false≢true}
use mathlib.Core.List.{List, [], ◌∷◌}
use Prim.Native.Nat.{ℕ, ◌+◌, ◌-◌, ◌≤◌, ◌<◌}
use native.Mathlib.Numerals.{add-one}
use native.Mathlib.Omega.{arith}
use lib.Dec.{leb, eqb}
use lib.ListN.{length, get_or, take, drop, length-append, length-drop, drop_of_length-le}
use lib.Seq.{drop-cons, drop-drop, length-take-le}
use borrow.Author.Tests.{leb-true, eqb-true, le-leb, eq-eqb}
use Rattle.message_format.specs.Format.{options_bytes, options_ok}
use Rattle.message_measure.specs.Given.{options_from, total, describes}
use Rattle.message_measure.specs.Rooms.{option_length, option_fits, room_after_option, options_fit, room_after}
use Rattle.std.specs.Prelude.{Option, Some, None}
use Rattle.pieces.proofs.Tests.{and_left, and_right, refute, same_test}

-- ---- one option

pub record Fits (room before number len values : ℕ) : Type 0 where
  pub rising : before ≤ number
  pub low : number ≤ 65535
  pub short : len ≤ 65804
  pub there : len ≤ values
  pub small : option_length (number - before) len ≤ room

module _ (room before number len values : ℕ) where
  pub option-fits : Fits room before number len values → option_fits room before number len values ≡ true
  unfolding option_fits
  option-fits f =
      rw (le-leb before number f.rising, le-leb number 65535 f.low, le-leb len 65804 f.short, le-leb len values f.there, le-leb (option_length (number - before) len) room f.small)

  pub fits-option : option_fits room before number len values ≡ true → Fits room before number len values
  unfolding option_fits
  fits-option t =
      let a : Bool = leb before number in
      let b : Bool = leb number 65535 in
      let c : Bool = leb len 65804 in
      let d : Bool = leb len values in
      let e : Bool = leb (option_length (number - before) len) room in
      let abcd = and_left (a && b && c && d) e t in
      let abc = and_left (a && b && c) d abcd in
      let ab = and_left (a && b) c abc in
      record {
        rising = leb-true before number (and_left a b ab);
        low = leb-true number 65535 (and_right a b ab);
        short = leb-true len 65804 (and_right (a && b) c abc);
        there = leb-true len values (and_right (a && b && c) d abcd);
        small = leb-true (option_length (number - before) len) room (and_right (a && b && c && d) e t);
      }

-- what an answer says of the test behind it
pub left-test : (b : Bool) (x m : ℕ) → cond b (Some x) None ≡ Some m → (b ≡ true) × (x ≡ m)
left-test true x m e = (refl, cc)
left-test false x m e = let z : ◌≡◌ {A = ℕ} 0 1 = cc in absurd (omega arith)

pub small-test : (b : Bool) (x : ℕ) → cond b (Some x) None ≡ None → b ≡ true → ⊥
small-test true x e t = let z : ◌≡◌ {A = ℕ} 0 1 = cc in omega arith
small-test false x e t = let z : ◌≡◌ {A = Bool} false true = t in absurd (false≢true z)

-- ---- all options

pub record AllFit (before room : ℕ) (numbers lengths values : List ℕ) : Type 0 where
  pub counts : length numbers ≡ length lengths
  pub sum : total lengths ≡ length values
  pub ok : options_ok before (options_from numbers lengths values) ≡ true
  pub small : length (options_bytes before (options_from numbers lengths values)) ≤ room

module _ (numbers lengths values : List ℕ) where
  pub described : describes numbers lengths values ≡ true → (length numbers ≡ length lengths) × (total lengths ≡ length values)
  unfolding describes
  described t =
      let a : Bool = eqb (length numbers) (length lengths) in
      let b : Bool = eqb (total lengths) (length values) in
      (eqb-true (length numbers) (length lengths) (and_left a b t), eqb-true (total lengths) (length values) (and_right a b t))

  pub describes-by : length numbers ≡ length lengths → total lengths ≡ length values → describes numbers lengths values ≡ true
  unfolding describes
  describes-by h k = rw (eq-eqb (length numbers) (length lengths) h, eq-eqb (total lengths) (length values) k)

  module _ (before room : ℕ) where
    pub all_fit : AllFit before room numbers lengths values → options_fit before room numbers lengths values ≡ true
    unfolding options_fit
    all_fit f =
        rw (describes-by f.counts f.sum, f.ok, le-leb (length (options_bytes before (options_from numbers lengths values))) room f.small)

    pub fit_all : options_fit before room numbers lengths values ≡ true → AllFit before room numbers lengths values
    unfolding options_fit
    fit_all t =
        let n : ℕ = length (options_bytes before (options_from numbers lengths values)) in
        let a : Bool = describes numbers lengths values in
        let b : Bool = options_ok before (options_from numbers lengths values) in
        let ab = and_left (a && b) (leb n room) t in
        let d = described (and_left a b ab) in
        record { counts = d.0; sum = d.1; ok = and_right a b ab; small = leb-true n room (and_right (a && b) (leb n room) t) }

    pub all_small : (AllFit before room numbers lengths values → ⊥) → room_after before room numbers lengths values ≡ None
    all_small h = rw (refute (options_fit before room numbers lengths values) (λ t. h (fit_all t)))

-- the first option, and the others in what it leaves
module _ (before room number n : ℕ) (numbers lengths values : List ℕ) where
  pub bytes-first : n ≤ length values → length (options_bytes before (options_from (number ∷ numbers) (n ∷ lengths) values))
      ≡ option_length (number - before) n + length (options_bytes number (options_from numbers lengths (drop n values)))
  unfolding options_bytes options_from
  bytes-first h = simp (length-append, length-take-le n values h)

  first-ok : Fits room before number n (length values) → options_ok before (options_from (number ∷ numbers) (n ∷ lengths) values) ≡ options_ok number (options_from numbers lengths (drop n values))
  unfolding options_ok options_from
  first-ok f =
      let e : length (take n values) ≡ n = length-take-le n values f.there in
      rw (e, le-leb before number f.rising, le-leb number 65535 f.low, le-leb n 65804 f.short)

  pub first_fits : AllFit before room (number ∷ numbers) (n ∷ lengths) values → Fits room before number n (length values)
  unfolding options_ok options_from total
  first_fits f =
      let there : n ≤ length values = omega (arith, f.sum) in
      let m : ℕ = length (take n values) in
      let a : Bool = leb before number in
      let b : Bool = leb number 65535 in
      let c : Bool = leb m 65804 in
      let abc = and_left (a && b && c) (options_ok number (options_from numbers lengths (drop n values))) f.ok in
      let ab = and_left (a && b) c abc in
      record {
        rising = leb-true before number (and_left a b ab);
        low = leb-true number 65535 (and_right a b ab);
        short = omega (arith, leb-true m 65804 (and_right (a && b) c abc), length-take-le n values there);
        there = there;
        small = omega (arith, f.small, bytes-first there);
      }

  module _ (f : Fits room before number n (length values)) where
    pub rest-fits : AllFit before room (number ∷ numbers) (n ∷ lengths) values → AllFit number (room - option_length (number - before) n) numbers lengths (drop n values)
    unfolding total
    rest-fits a =
        record {
          counts = omega (arith, a.counts);
          sum = omega (arith, a.sum, length-drop n values, f.there);
          ok = sym (first-ok f) ∙ a.ok;
          small = omega (arith, a.small, bytes-first f.there);
        }

    fits-rest : AllFit number (room - option_length (number - before) n) numbers lengths (drop n values) → AllFit before room (number ∷ numbers) (n ∷ lengths) values
    unfolding total
    fits-rest a =
        record {
          counts = omega (arith, a.counts);
          sum = omega (arith, a.sum, length-drop n values, f.there);
          ok = first-ok f ∙ a.ok;
          small = omega (arith, a.small, bytes-first f.there, f.small);
        }

    room-first : room_after before room (number ∷ numbers) (n ∷ lengths) values ≡ room_after number (room - option_length (number - before) n) numbers lengths (drop n values)
    room-first =
        let left : ℕ = room - option_length (number - before) n in
        let t : options_fit before room (number ∷ numbers) (n ∷ lengths) values ≡ options_fit number left numbers lengths (drop n values) =
        same_test (options_fit before room (number ∷ numbers) (n ∷ lengths) values) (options_fit number left numbers lengths (drop n values))
        (λ b. all_fit numbers lengths (drop n values) number left (rest-fits (fit_all (number ∷ numbers) (n ∷ lengths) values before room b)))
        (λ b. all_fit (number ∷ numbers) (n ∷ lengths) values before room (fits-rest (fit_all numbers lengths (drop n values) number left b))) in
        let e : room - length (options_bytes before (options_from (number ∷ numbers) (n ∷ lengths) values)) ≡ left - length (options_bytes number (options_from numbers lengths (drop n values))) =
        omega (arith, bytes-first f.there) in
        λ i. cond (t i) (Some (e i)) None

  pub room_small : room_after_option room before number n (length values) ≡ None → room_after before room (number ∷ numbers) (n ∷ lengths) values ≡ None
  room_small e =
      all_small (number ∷ numbers) (n ∷ lengths) values before room
      (λ a. small-test (option_fits room before number n (length values)) (room - option_length (number - before) n) e (option-fits room before number n (length values) (first_fits a)))

  pub room-left : (m : ℕ) → room_after_option room before number n (length values) ≡ Some m
      → room_after before room (number ∷ numbers) (n ∷ lengths) values ≡ room_after number m numbers lengths (drop n values)
  room-left m e =
      let t = left-test (option_fits room before number n (length values)) (room - option_length (number - before) n) m e in
      room-first (fits-option room before number n (length values) t.0) ∙ ap (λ (k : ℕ). room_after number k numbers lengths (drop n values)) t.1

pub room-end : (before room : ℕ) (values : List ℕ) → length values ≡ 0 → room_after before room [] [] values ≡ Some room
unfolding options_from options_bytes options_ok total
room-end before room values h =
    rw (all_fit [] [] values before room (record { counts = refl; sum = sym h; ok = refl; small = omega arith })) (ap Some (omega arith))

-- the element at an index is the first of those from there on
pub drop-next : (l : List ℕ) (i x : ℕ) → i < length l → x ≡ get_or l i 0 → drop i l ≡ x ∷ drop (i + 1) l
drop-next l i x h e = rw (e, add-one) (drop-cons l i 0 h)

-- ---- the loop: what holds after i options

pub record Measured (room : ℕ) (numbers lengths values : List ℕ) (left before at i : ℕ) : Type 0 where
  pub counts : length numbers ≡ length lengths
  pub within : i ≤ length numbers
  pub reach : at ≤ length values
  pub same : room_after before left (drop i numbers) (drop i lengths) (drop at values) ≡ room_after 0 room numbers lengths values

module _ (room : ℕ) (numbers lengths values : List ℕ) where
  pub measured-start : length numbers ≡ length lengths → Measured room numbers lengths values room 0 0 0
  measured-start h = record { counts = h; within = omega arith; reach = omega arith; same = refl }

  pub uncounted : (length numbers ≡ length lengths → ⊥) → None ≡ room_after 0 room numbers lengths values
  uncounted h = sym (all_small numbers lengths values 0 room (λ a. h a.counts))

module _ {room : ℕ} {numbers lengths values : List ℕ} {left before at i : ℕ} (m : Measured room numbers lengths values left before at i) where
  module _ {number len : ℕ} (h : i < length numbers) (p : number ≡ get_or numbers i 0) (q : len ≡ get_or lengths i 0) where
    next : room_after before left (number ∷ drop (i + 1) numbers) (len ∷ drop (i + 1) lengths) (drop at values) ≡ room_after 0 room numbers lengths values
    next =
        let e = drop-next numbers i number h p in
        let f = drop-next lengths i len (omega (arith, m.counts)) q in
        (λ j. room_after before left (sym e j) (sym f j) (drop at values)) ∙ m.same

    pub measured-small : {r : Option ℕ} → r ≡ room_after_option left before number len (length values - at) → r ≡ None → None ≡ room_after 0 room numbers lengths values
    measured-small is e =
        sym (room_small before left number len (drop (i + 1) numbers) (drop (i + 1) lengths) (drop at values) (rw length-drop (sym is ∙ e))) ∙ next

    pub measured-next : {r : Option ℕ} → r ≡ room_after_option left before number len (length values - at) → (after : ℕ) → r ≡ Some after
        → Measured room numbers lengths values after number (at + len) (i + 1)
    measured-next is after e' =
        let e = sym is ∙ e' in
        let t = left-test (option_fits left before number len (length values - at)) (left - option_length (number - before) len) after e in
        let f = fits-option left before number len (length values - at) t.0 in
        record {
          counts = m.counts;
          within = omega arith;
          reach = omega (arith, f.there, m.reach);
          same =
              rw (← (drop-drop len at values))
              (sym (room-left before left number len (drop (i + 1) numbers) (drop (i + 1) lengths) (drop at values) after (rw length-drop e)) ∙ next);
        }

  module _ (h : length numbers ≤ i) where
    ended : room_after before left [] [] (drop at values) ≡ room_after 0 room numbers lengths values
    ended =
        let e : drop i numbers ≡ [] = drop_of_length-le numbers h in
        let f : drop i lengths ≡ [] = drop_of_length-le lengths {i = i} (omega (arith, m.counts)) in
        (λ j. room_after before left (sym e j) (sym f j) (drop at values)) ∙ m.same

    pub measured-over : at < length values → None ≡ room_after 0 room numbers lengths values
    unfolding total
    measured-over k = sym (all_small [] [] (drop at values) before left (λ a. omega (arith, a.sum, length-drop at values))) ∙ ended

    pub measured-done : length values ≤ at → Some left ≡ room_after 0 room numbers lengths values
    measured-done k = sym (room-end before left (drop at values) (rw length-drop (omega arith))) ∙ ended
