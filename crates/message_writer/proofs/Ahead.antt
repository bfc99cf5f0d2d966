-- The loop that writes the options: what is written when the options ahead are. Assumes nothing.
use mathlib.Core.Path.{◌≡◌, refl, ap, ◌∙◌}
use mathlib.Core.Bool.{true}
use mathlib.Core.List.{List, [], ◌∷◌, ◌++◌}
use Prim.Native.Nat.{ℕ, ◌+◌, ◌-◌, ◌≤◌, ◌<◌, min}
use native.Mathlib.Omega.{arith}
use lib.ListN.{length, get_or, take, drop, length-append, length-drop, drop_of_length-le}
use lib.Seq.{drop-drop, length-take-le}
use denote.Ref.{Bor}
use Rattle.std.specs.declared.iter.Zip.{Zip}
use Rattle.std.proofs.Common.{Iter}
use Rattle.std.specs.Prelude.{Option, Some}
use Rattle.std.specs.Iterator.{Yields}
use Rattle.std.specs.Iterator.Adapters.{zip_first, zip_second}
use Rattle.std.specs.Slice.Iter.{iter_rest}
use Rattle.std.proofs.iter.Yields.{fronts}
use Rattle.std.proofs.lemmas.Iterator.{zips}
use Rattle.std.proofs.lemmas.Slice.Zip.{zip_turn}
use Rattle.pieces.specs.Memory.{Put}
use Rattle.pieces.proofs.Puts.{put-none, put_then, put_as, put-length}
use Rattle.message_format.specs.Format.{option_head, options_bytes, options_ok}
use Rattle.message_measure.specs.Given.{options_from, describes}
use Rattle.message_measure.specs.Rooms.{option_length}
use Rattle.message_measure.proofs.Measures.{Fits, AllFit, described, first_fits, rest-fits, drop-next}

-- after i options: those ahead fit, and where they are written next, all are
pub record Ahead (out₀ : List ℕ) (start : ℕ) (numbers lengths values out : List ℕ) (to before at i : ℕ) : Type 0 where
  pub within : i ≤ length numbers
  pub reach : at ≤ length values
  pub room : to ≤ length out
  pub same : length out ≡ length out₀
  pub fit : AllFit before (length out - to) (drop i numbers) (drop i lengths) (drop at values)
  pub put : (m : List ℕ) (r : ℕ) → Put out to (options_bytes before (options_from (drop i numbers) (drop i lengths) (drop at values))) m r
      → Put out₀ start (options_bytes 0 (options_from numbers lengths values)) m r

module _ (out₀ : List ℕ) (start : ℕ) (numbers lengths values : List ℕ) where
  pub ahead-start : describes numbers lengths values ≡ true → options_ok 0 (options_from numbers lengths values) ≡ true
      → start + length (options_bytes 0 (options_from numbers lengths values)) ≤ length out₀ → Ahead out₀ start numbers lengths values out₀ start 0 0 0
  ahead-start d ok h =
      let e = described numbers lengths values d in
      record {
        within = omega arith;
        reach = omega arith;
        room = omega arith;
        same = refl;
        fit = record { counts = e.0; sum = e.1; ok = ok; small = omega arith };
        put = λ m r p. p;
      }

module _ {out₀ : List ℕ} {start : ℕ} {numbers lengths values out : List ℕ} {to before at i : ℕ} (a : Ahead out₀ start numbers lengths values out to before at i) where
  -- there is a length where there is a number
  more : i < length numbers → i < length lengths
  more h = omega (arith, a.fit.counts, length-drop i numbers, length-drop i lengths)

  pub all-done : i ≡ min (length numbers) (length lengths) → length numbers ≤ i
  all-done h = omega (arith, a.fit.counts, a.within, length-drop i numbers, length-drop i lengths)

  pub ahead-done : length numbers ≤ i → Put out₀ start (options_bytes 0 (options_from numbers lengths values)) out to
  unfolding options_bytes options_from
  ahead-done h =
      let e : drop i numbers ≡ [] = drop_of_length-le numbers h in
      a.put out to (rw e (put-none out to a.room))

-- ---- a turn: the next option is of this number and length

pub record Turn (out₀ : List ℕ) (start : ℕ) (numbers lengths values out : List ℕ) (to before at i number len : ℕ) : Type 0 where
  pub ahead : Ahead out₀ start numbers lengths values out to before at i
  pub there : i < length numbers
  pub numbered : number ≡ get_or numbers i 0
  pub sized : len ≡ get_or lengths i 0

-- the turn of a `for` over the pairs of a number and a length
pub turn : {out₀ : List ℕ} {start : ℕ} {numbers lengths values out : List ℕ} {to before at : ℕ} (xs : List (Bor ℕ × Bor ℕ)) (s t u : Zip (Iter ℕ) (Iter ℕ)) (r : Option (Bor ℕ × Bor ℕ))
    → iter_rest (zip_first s) ≡ numbers → iter_rest (zip_second s) ≡ lengths → Yields (zips fronts fronts) s xs t → (p : Bor ℕ × Bor ℕ) → r ≡ Some p → zips fronts fronts t r u
    → Ahead out₀ start numbers lengths values out to before at (length xs) → Turn out₀ start numbers lengths values out to before at (length xs) p.0.now p.1.now
turn {numbers = numbers} {lengths = lengths} xs s t u r first second y p e h a =
    let z = zip_turn numbers lengths xs s t u r first second y p e h in
    record { ahead = a; there = z.0; numbered = z.2 0; sized = z.3 0 }

module _ {out₀ : List ℕ} {start : ℕ} {numbers lengths values out : List ℕ} {to before at i number len : ℕ} (t : Turn out₀ start numbers lengths values out to before at i number len) where
  numbers-next : drop i numbers ≡ number ∷ drop (i + 1) numbers
  numbers-next = drop-next numbers i number t.there t.numbered

  lengths-next : drop i lengths ≡ len ∷ drop (i + 1) lengths
  lengths-next = drop-next lengths i len (more t.ahead t.there) t.sized

  all-fit-next : AllFit before (length out - to) (number ∷ drop (i + 1) numbers) (len ∷ drop (i + 1) lengths) (drop at values)
  all-fit-next = rw (← numbers-next, ← lengths-next) t.ahead.fit

  fits_next : Fits (length out - to) before number len (length (drop at values))
  fits_next = first_fits before (length out - to) number len (drop (i + 1) numbers) (drop (i + 1) lengths) (drop at values) all-fit-next

  pub turn-fits : Fits (length out - to) before number len (length values - at)
  turn-fits = rw length-drop at fits_next

  -- its value, by where it starts and ends
  abbrev pub Value : List ℕ
  Value = take (at + len - at) (drop at values)

  value-is : Value ≡ take len (drop at values)
  value-is = let e : at + len - at ≡ len = omega arith in ap (λ (n : ℕ). take n (drop at values)) e

  pub value-length : length Value ≡ len
  value-length = ap length value-is ∙ length-take-le len (drop at values) fits_next.there

  bytes-length : length (option_head (number - before) (length Value) ++ Value) ≡ option_length (number - before) len
  bytes-length = length-append (option_head (number - before) (length Value)) Value ∙ ap (option_length (number - before)) value-length

  pub turn-room : to + length (option_head (number - before) (length Value) ++ Value) ≤ length out
  turn-room = let n = bytes-length in omega (arith, fits_next.small, t.ahead.room)

  bytes_next : (option_head (number - before) (length Value) ++ Value) ++ options_bytes number (options_from (drop (i + 1) numbers) (drop (i + 1) lengths) (drop (at + len) values))
      ≡ options_bytes before (options_from (drop i numbers) (drop i lengths) (drop at values))
  unfolding options_bytes options_from
  bytes_next = rw (value-is, numbers-next, lengths-next, drop-drop len at values)

  pub turned : {out' : List ℕ} {to' : ℕ} → Put out to (option_head (number - before) (length Value) ++ Value) out' to'
      → Ahead out₀ start numbers lengths values out' to' number (at + len) (i + 1)
  turned {out'} {to'} w =
      let l : length out' ≡ length out = put-length w in
      let n = bytes-length in
      let left : length out - to - option_length (number - before) len ≡ length out' - to' = omega (arith, w.to) in
      record {
        within = omega (arith, t.there);
        reach = omega (arith, turn-fits.there, t.ahead.reach);
        room = omega (arith, w.to, turn-room);
        same = l ∙ t.ahead.same;
        fit =
            rw (← left, ← (drop-drop len at values))
            (rest-fits before (length out - to) number len (drop (i + 1) numbers) (drop (i + 1) lengths) (drop at values) fits_next all-fit-next);
        put = λ m r x. t.ahead.put m r (put_as (put_then w x) bytes_next);
      }
