-- The fields of a text: how far the first one reaches, and the tests of a whole line. Assumes nothing.
use mathlib.Core.Path.{◌≡◌, refl, sym, ap, ◌∙◌}
use mathlib.Core.Bool.{Bool, true, false, cond}
use mathlib.Core.List.{List, [], ◌∷◌, ◌++◌}
use Prim.Native.Nat.{ℕ, suc, ◌+◌, ◌-◌, ◌≤◌, ◌<◌}
use native.Mathlib.Numerals.{add-one}
use native.Mathlib.Omega.{arith}
use lib.Dec.{eqb, ltb}
use lib.ListN.{length, get_or, take, drop, length-take, length-drop, drop_of_length-le}
use lib.Seq.{drop-cons, take-suc, get_or-drop}
use borrow.Author.Tests.{lt-ltb, le-ltb, ltb-true, ltb-false, eq-eqb, ne_eqb}
use Rattle.pieces.proofs.Tests.{by_cases}
use Rattle.script_cut.specs.Cut.{Bytes, push, cut_at, fields, between, lengths, UpTo, Next}

-- bytes before the first field
abbrev pub push_all : List ℕ → List (List ℕ) → List (List ℕ)
push_all [] fs = fs
push_all (x ∷ xs) fs = push x (push_all xs fs)

push-last : (xs : List ℕ) (x : ℕ) (fs : List (List ℕ)) → push_all (xs ++ (x ∷ [])) fs ≡ push_all xs (push x fs)
push-last [] x fs = refl
push-last (y ∷ xs) x fs = ap (push y) (push-last xs x fs)

push-none : (xs : List ℕ) (fs : List (List ℕ)) → push_all xs ([] ∷ fs) ≡ xs ∷ fs
unfolding push
push-none [] fs = refl
push-none (y ∷ xs) fs = ap (push y) (push-none xs fs)

one_more_lem : (l : List ℕ) (from i : ℕ) → from ≤ i → i < length l → between l from (i + 1) ≡ between l from i ++ (get_or l i 0 ∷ [])
one_more_lem l from i h k =
    let n : i + 1 - from ≡ suc (i - from) = omega arith in
    let m : from + (i - from) ≡ i = omega arith in
    let w : i - from < length (drop from l) = simp length-drop (omega arith) in
    ap (λ (j : ℕ). take j (drop from l)) n ∙ take-suc (drop from l) (i - from) 0 w
    ∙ ap (λ (x : ℕ). between l from i ++ (x ∷ [])) (get_or-drop from l (i - from) 0 ∙ ap (λ (j : ℕ). get_or l j 0) m)

-- what holds where no mark was met up to i
pub record Met (mark : ℕ) (l : List ℕ) (from i : ℕ) : Type 0 where
  pub after : from ≤ i
  pub within : i ≤ length l
  pub is : cut_at mark (drop from l) ≡ push_all (between l from i) (cut_at mark (drop i l))

pub met_start : (mark : ℕ) (l : List ℕ) (from : ℕ) → from ≤ length l → Met mark l from from
met_start mark l from h =
    let n : from - from ≡ 0 = omega arith in
    record { after = omega arith; within = h; is = rw n }

module _ (mark : ℕ) (l : List ℕ) (from i : ℕ) (m : Met mark l from i) where
  pub met-turn : i < length l → (get_or l i 0 ≡ mark → ⊥) → Met mark l from (i + 1)
  unfolding cut_at
  met-turn h ne =
      let f : cut_at mark (drop i l) ≡ push (get_or l i 0) (cut_at mark (drop (i + 1) l)) = rw (add-one, drop-cons l i 0 h, ne_eqb (get_or l i 0) mark ne) in
      record {
        after = omega (arith, m.after);
        within = omega arith;
        is = m.is ∙ ap (push_all (between l from i)) f ∙ sym (push-last (between l from i) (get_or l i 0) (cut_at mark (drop (i + 1) l)))
            ∙ ap (λ (b : List ℕ). push_all b (cut_at mark (drop (i + 1) l))) (sym (one_more_lem l from i m.after h));
      }

  pub met-mark : i < length l → get_or l i 0 ≡ mark → UpTo mark l from i
  unfolding cut_at
  met-mark h e =
      let f : cut_at mark (drop i l) ≡ [] ∷ cut_at mark (drop (i + 1) l) = rw (add-one, drop-cons l i 0 h, eq-eqb (get_or l i 0) mark e) in
      record {
        after = m.after;
        within = m.within;
        is = m.is ∙ ap (push_all (between l from i)) f ∙ push-none (between l from i) (cut_at mark (drop (i + 1) l)) ∙ rw (lt-ltb i (length l) h);
      }

  pub met-end : length l ≤ i → UpTo mark l from (length l)
  unfolding cut_at
  met-end h =
      let f : cut_at mark (drop i l) ≡ [] ∷ [] = rw (drop_of_length-le l {i = i} h) in
      let end : i ≡ length l = omega (arith, m.within) in
      let u : UpTo mark l from i = record {
        after = m.after;
        within = m.within;
        is = m.is ∙ ap (push_all (between l from i)) f ∙ push-none (between l from i) [] ∙ rw (le-ltb i (length l) h);
      } in
      rw end at u

module _ (mark : ℕ) (l : List ℕ) (from r : ℕ) (u : UpTo mark l from r) where
  pub next_field : r < length l → cut_at mark (drop from l) ≡ between l from r ∷ cut_at mark (drop (r + 1) l)
  next_field h = u.is ∙ rw (lt-ltb r (length l) h)

  pub last-field : length l ≤ r → cut_at mark (drop from l) ≡ between l from r ∷ []
  last-field h = u.is ∙ rw (le-ltb r (length l) h)

push-some : (x : ℕ) (fs : List (List ℕ)) → 0 < length (push x fs)
unfolding push
push-some x [] = omega arith
push-some x (f ∷ fs) = omega arith

-- there is always a field
pub some-field : (mark : ℕ) (l : List ℕ) → 0 < length (cut_at mark l)
unfolding cut_at
some-field mark [] = omega arith
some-field mark (x ∷ xs) = go (eqb x mark)
  where
    go : (b : Bool) → 0 < length (cond b ([] ∷ cut_at mark xs) (push x (cut_at mark xs)))
    go true = omega arith
    go false = push-some x (cut_at mark xs)

-- ---- six fields

pub next-behind : {l : Bytes} {space r : ℕ} → space < length l → UpTo 32 l (space + 1) r → Next l space r
next-behind h u = record { behind = λ k. u; none = λ k. absurd (omega arith) }

pub next-none : {l : Bytes} {space : ℕ} → length l ≤ space → Next l space (length l)
next-none h = record { behind = λ k. absurd (omega arith); none = λ k. refl }

-- k fields end up to x, and more follow if it is a space
record Count (l : Bytes) (from k x : ℕ) : Type 0 where
  some : x < length l → length (fields (drop from l)) ≡ k + length (fields (drop (x + 1) l))
  none : length l ≤ x → length (fields (drop from l)) ≤ k

module _ {l : Bytes} {from : ℕ} where
  count-first : {x : ℕ} → UpTo 32 l from x → Count l from 1 x
  count-first {x} u =
      record { some = λ h. rw (next_field 32 l from x u h) (omega arith); none = λ h. rw (last-field 32 l from x u h) (omega arith) }

  count_next : {k x y : ℕ} → Count l from k x → Next l x y → Count l from (k + 1) y
  count_next {k} {x} {y} n e =
      by_cases (ltb x (length l))
      (λ t. let h : x < length l = ltb-true x (length l) t in
      let u = e.behind h in
      record {
        some = λ w. n.some h ∙ rw (next_field 32 l (x + 1) y u w) (omega arith);
        none = λ w. rw (n.some h, last-field 32 l (x + 1) y u w) (omega arith);
      })
      (λ t. let h : length l ≤ x = ltb-false x (length l) t in
      record { some = λ w. absurd (omega (arith, e.none h)); none = λ w. omega (arith, n.none h) })

-- five spaces, or not, and what ends the sixth field
module _ {l : Bytes} {from a b c d e z : ℕ} (u : UpTo 32 l from a) (n₁ : Next l a b) (n₂ : Next l b c) (n₃ : Next l c d) (n₄ : Next l d e) (n₅ : Next l e z) where
  five : Count l from 5 e
  five = count_next (count_next (count_next (count_next (count-first u) n₁) n₂) n₃) n₄

  pub fewer : length l ≤ e → eqb (length (fields (drop from l))) 6 ≡ false
  fewer h = ne_eqb (length (fields (drop from l))) 6 (λ w. omega (arith, five.none h, w))

  pub more : z < length l → eqb (length (fields (drop from l))) 6 ≡ false
  more h = ne_eqb (length (fields (drop from l))) 6 (λ w. omega (arith, (count_next five n₅).some h, some-field 32 (drop (z + 1) l), w))

  -- what is not the end is a space behind no end
  before : {x y : ℕ} → Next l x y → y < length l → x < length l
  before {x} {y} n h = by_cases (ltb x (length l)) (ltb-true x (length l)) (λ t. absurd (omega (arith, n.none (ltb-false x (length l) t))))

  pub exactly : e < length l → length l ≤ z
      → (between l from a ∷ between l (a + 1) b ∷ between l (b + 1) c ∷ between l (c + 1) d ∷ between l (d + 1) e ∷ between l (e + 1) z ∷ []) ≡ fields (drop from l)
  exactly h k =
      let hd = before n₄ h in
      let hc = before n₃ hd in
      let hb = before n₂ hc in
      let ha = before n₁ hb in
      rw (
        next_field 32 l from a u ha,
        next_field 32 l (a + 1) b (n₁.behind ha) hb,
        next_field 32 l (b + 1) c (n₂.behind hb) hc,
        next_field 32 l (c + 1) d (n₃.behind hc) hd,
        next_field 32 l (d + 1) e (n₄.behind hd) h,
        last-field 32 l (e + 1) z (n₅.behind h) k,
      )

-- ---- the fields fit the line together

push-long : (x : ℕ) (fs : List Bytes) → lengths (push x fs) ≤ 1 + lengths fs
unfolding push
push-long x [] = omega arith
push-long x (f ∷ fs) = omega arith

lengths-cut : (mark : ℕ) (l : Bytes) → lengths (cut_at mark l) ≤ length l
unfolding cut_at
lengths-cut mark [] = omega arith
lengths-cut mark (x ∷ xs) = go (eqb x mark) (lengths-cut mark xs)
  where
    go : (b : Bool) → lengths (cut_at mark xs) ≤ length xs → lengths (cond b ([] ∷ cut_at mark xs) (push x (cut_at mark xs))) ≤ suc (length xs)
    go true h = omega arith
    go false h = omega (arith, push-long x (cut_at mark xs))

pub fields_fit : (l : Bytes) (from : ℕ) (six : List Bytes) → six ≡ fields (drop from l) → lengths six ≤ length l
fields_fit l from six e = rw e (omega (arith, lengths-cut 32 (drop from l), length-drop from l))
