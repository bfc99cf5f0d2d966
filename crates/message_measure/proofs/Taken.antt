-- What the test of a message says, and what the measure makes of it. Assumes nothing.
use mathlib.Core.Path.{◌≡◌, refl, sym, ◌∙◌}
use mathlib.Core.Bool.{Bool, true, false, cond, ◌&&◌, false≢true}
use mathlib.Core.List.{List, [], ◌∷◌}
use Prim.Native.Nat.{ℕ, ◌+◌, ◌-◌, ◌≤◌}
use native.Mathlib.Omega.{arith}
use lib.Dec.{leb, eqb}
use lib.ListN.{length, drop, length-append}
use borrow.Author.Tests.{leb-true, le-leb}
use Rattle.message_format.specs.Format.{bytes_of, head_bytes, options_bytes, payload_bytes, options_ok, empty_ok, encodable}
use Rattle.message_measure.specs.Given.{Given, options_from, describes, message_of, takes}
use Rattle.message_measure.specs.Rooms.{room_after, options_fit}
use Rattle.std.specs.Prelude.{Option, Some, None}
use Rattle.pieces.proofs.Tests.{and_left, and_right, refute, same_test}
use Rattle.message_measure.proofs.Measures.{described, describes-by, all_fit, fit_all, left-test, small-test}

-- the bytes of the options that are given
abbrev pub options_of : Given → List ℕ
options_of g = options_bytes 0 (options_from g.numbers g.lengths g.values)

pub record Taken (room : ℕ) (g : Given) : Type 0 where
  pub kind : g.message_type ≤ 3
  pub code : g.code ≤ 255
  pub id : g.message_id ≤ 65535
  pub token : length g.token ≤ 8
  pub described : describes g.numbers g.lengths g.values ≡ true
  pub ok : options_ok 0 (options_from g.numbers g.lengths g.values) ≡ true
  pub empty : empty_ok (message_of g) ≡ true
  pub small : 4 + length g.token + length (options_of g) + length (payload_bytes g.payload) ≤ room

pub bytes-length : (g : Given) → length (bytes_of (message_of g)) ≡ 4 + length g.token + length (options_of g) + length (payload_bytes g.payload)
unfolding bytes_of head_bytes
bytes-length g = simp length-append (omega arith)

module _ (room : ℕ) (g : Given) where
  pub takes-by : Taken room g → takes room g ≡ true
  unfolding takes encodable
  takes-by t =
      let fits : length (bytes_of (message_of g)) ≤ room = omega (arith, t.small, bytes-length g) in
      rw (t.described, le-leb _ 3 t.kind, le-leb _ 255 t.code, le-leb _ 65535 t.id, le-leb _ 8 t.token, t.ok, t.empty, le-leb _ room fits)

  pub taken : takes room g ≡ true → Taken room g
  unfolding takes encodable
  taken t =
      let d : Bool = describes g.numbers g.lengths g.values in
      let a : Bool = leb g.message_type 3 in
      let b : Bool = leb g.code 255 in
      let c : Bool = leb g.message_id 65535 in
      let e : Bool = leb (length g.token) 8 in
      let o : Bool = options_ok 0 (options_from g.numbers g.lengths g.values) in
      let m : Bool = empty_ok (message_of g) in
      let n : ℕ = length (bytes_of (message_of g)) in
      let all = and_left (d && (a && b && c && e && o && m)) (leb n room) t in
      let abceom = and_right d (a && b && c && e && o && m) all in
      let abceo = and_left (a && b && c && e && o) m abceom in
      let abce = and_left (a && b && c && e) o abceo in
      let abc = and_left (a && b && c) e abce in
      let ab = and_left (a && b) c abc in
      record {
        kind = leb-true g.message_type 3 (and_left a b ab);
        code = leb-true g.code 255 (and_right a b ab);
        id = leb-true g.message_id 65535 (and_right (a && b) c abc);
        token = leb-true (length g.token) 8 (and_right (a && b && c) e abce);
        described = and_left d (a && b && c && e && o && m) all;
        ok = and_right (a && b && c && e) o abceo;
        empty = and_right (a && b && c && e && o) m abceom;
        small = omega (arith, leb-true n room (and_right (d && (a && b && c && e && o && m)) (leb n room) t), bytes-length g);
      }

  pub not_taken : (Taken room g → ⊥) → false ≡ takes room g
  not_taken h = sym (refute (takes room g) (λ t. h (taken t)))

-- ---- as it is measured

-- there are as many options as numbers
count : (numbers lengths values : List ℕ) → length numbers ≡ length lengths → length (options_from numbers lengths values) ≡ length numbers
unfolding options_from
count [] lengths values h = refl
count (number ∷ numbers) [] values h = absurd (omega arith)
count (number ∷ numbers) (n ∷ lengths) values h = omega (arith, count numbers lengths (drop n values) (omega arith))

pub empty-is : (g : Given) → describes g.numbers g.lengths g.values ≡ true
    → empty_ok (message_of g) ≡ cond (eqb g.code 0) (eqb (length g.token + length g.numbers + length g.payload) 0) true
unfolding empty_ok
empty-is g d = rw (count g.numbers g.lengths g.values (described g.numbers g.lengths g.values d).0)

pub empty-refused : (room : ℕ) (g : Given) (r : Bool) → r ≡ cond (eqb g.code 0) (eqb (length g.token + length g.numbers + length g.payload) 0) true → r ≡ false → false ≡ takes room g
empty-refused room g r e f = not_taken room g (λ t. false≢true (sym f ∙ e ∙ sym (empty-is g t.described) ∙ t.empty))

-- the head and the token leave so much of the room
module _ (room : ℕ) (g : Given) (left-over : ℕ) (h : left-over + (4 + length g.token) ≡ room) where
  options-fit : Taken room g → options_fit 0 left-over g.numbers g.lengths g.values ≡ true
  options-fit t =
      let d = described g.numbers g.lengths g.values t.described in
      all_fit g.numbers g.lengths g.values 0 left-over (record { counts = d.0; sum = d.1; ok = t.ok; small = omega (arith, t.small) })

  pub options-small : {r : Option ℕ} → r ≡ room_after 0 left-over g.numbers g.lengths g.values → r ≡ None → false ≡ takes room g
  options-small is e =
      not_taken room g (λ t. small-test (options_fit 0 left-over g.numbers g.lengths g.values) (left-over - length (options_of g)) (sym is ∙ e) (options-fit t))

  pub options-left : {r : Option ℕ} → r ≡ room_after 0 left-over g.numbers g.lengths g.values → (left : ℕ) → r ≡ Some left
      → g.message_type ≤ 3 → g.code ≤ 255 → g.message_id ≤ 65535 → length g.token ≤ 8
      → cond (eqb g.code 0) (eqb (length g.token + length g.numbers + length g.payload) 0) true ≡ true
      → leb (length (payload_bytes g.payload)) left ≡ takes room g
  options-left is left e kind code id token empty =
      let n : ℕ = length (payload_bytes g.payload) in
      let p = left-test (options_fit 0 left-over g.numbers g.lengths g.values) (left-over - length (options_of g)) left (sym is ∙ e) in
      let f = fit_all g.numbers g.lengths g.values 0 left-over p.0 in
      let d = describes-by g.numbers g.lengths g.values f.counts f.sum in
      same_test (leb n left) (takes room g)
      (λ t. takes-by room g (record {
        kind = kind;
        code = code;
        id = id;
        token = token;
        described = d;
        ok = f.ok;
        empty = empty-is g d ∙ empty;
        small = omega (arith, leb-true n left t, p.1, f.small);
      }))
      (λ t. le-leb n left (omega (arith, (taken room g t).small, p.1, f.small)))
