-- A control line: what each test of the reader says of it. Assumes nothing.
use mathlib.Core.Path.{◌≡◌, refl, sym, ap, ◌∙◌}
use mathlib.Core.Bool.{Bool, true, false, not, ◌&&◌, and-false}
use mathlib.Core.List.{List, [], ◌∷◌}
use Prim.Native.Nat.{ℕ, zero, suc, ◌≤◌, ◌<◌}
use native.Mathlib.Omega.{arith}
use lib.Dec.{eqb}
use lib.ListN.{length, drop}
use Rattle.script_fields.specs.Fields.{is_number, value}
use Rattle.script_cut.specs.Cut.{Bytes, fields, at}
use Rattle.config.specs.declared.Config.{Config}
use Rattle.keys.specs.Keys.{same}
use Rattle.std.specs.Prelude.{Some, None, option_map}
use Rattle.std.specs.Cmp.Lexicographic.{pointwise}
use Rattle.replay_control.specs.declared.Control.TheVariants.{Fresh, Show}
use Rattle.replay_control.specs.Control.{plain_text, strict_text, config_of, start_of, fresh_of, control_of}

-- ---- texts that are compared

-- bytes are the same where they are equal one by one
same-is : (a b : List ℕ) → same a b ≡ pointwise eqb a b
unfolding same
same-is [] [] = refl
same-is [] (y ∷ b) = refl
same-is (x ∷ a) [] = refl
same-is (x ∷ a) (y ∷ b) = ap (λ (t : Bool). eqb x y && t) (same-is a b)

module _ {a b x y : List ℕ} {r : Bool} where
  pub tested : r ≡ pointwise eqb x y → x ≡ a → y ≡ b → same a b ≡ r
  tested e p q = rw (← p, ← q) (same-is x y ∙ sym e)

  pub tested-not : r ≡ not (pointwise eqb x y) → x ≡ a → y ≡ b → same a b ≡ not r
  tested-not e p q = rw (← p, ← q, e) (same-is x y ∙ sym (not-not (pointwise eqb x y)))
    where
      not-not : (t : Bool) → not (not t) ≡ t
      not-not true = refl
      not-not false = refl

-- ---- the line

pub show-line : (l : Bytes) → same l (83 ∷ []) ≡ true → Some Show ≡ control_of l
unfolding control_of
show-line l e = rw e

module _ (l : Bytes) (no : same l (83 ∷ []) ≡ false) where
  pub not-six : eqb (length (fields l)) 6 ≡ false → None ≡ control_of l
  unfolding control_of fresh_of
  not-six e = rw (no, e)

  module _ {fs : List Bytes} (f : fs ≡ fields l) (six-are : eqb (length fs) 6 ≡ true) where
    a-start : option_map Fresh (start_of fs) ≡ control_of l
    unfolding control_of fresh_of
    a-start = rw (no, ← f, six-are)

    pub no_start_lem : None ≡ start_of fs → None ≡ control_of l
    no_start_lem n = rw (← n) at a-start

    pub some-start : (c : Config) → Some c ≡ start_of fs → Some (Fresh c) ≡ control_of l
    some-start c n = rw (← n) at a-start

-- ---- the fields of a fresh start

module _ (fs : List Bytes) where
  pub no_kind : same (at fs 0) (67 ∷ []) ≡ false → None ≡ start_of fs
  unfolding start_of
  no_kind e = rw e

  module _ (kind : same (at fs 0) (67 ∷ []) ≡ true) where
    pub strict-start : same (at fs 1) strict_text ≡ true → config_of true fs ≡ start_of fs
    unfolding start_of
    strict-start e = rw (kind, e)

    module _ (lax : same (at fs 1) strict_text ≡ false) where
      pub plain-start : same (at fs 1) plain_text ≡ true → config_of false fs ≡ start_of fs
      unfolding start_of
      plain-start e = rw (kind, lax, e)

      pub no_mode : same (at fs 1) plain_text ≡ false → None ≡ start_of fs
      unfolding start_of
      no_mode e = rw (kind, lax, e)

  module _ (strict : Bool) where
    -- any of the four decimals
    pub no_number : (i : ℕ) → 2 ≤ i → i < 6 → is_number (at fs i) ≡ false → None ≡ config_of strict fs
    unfolding config_of
    no_number zero h k e = absurd (omega arith)
    no_number (suc zero) h k e = absurd (omega arith)
    no_number (suc (suc zero)) h k e = simp (e, and-false)
    no_number (suc (suc (suc zero))) h k e = simp (e, and-false)
    no_number (suc (suc (suc (suc zero)))) h k e = simp (e, and-false)
    no_number (suc (suc (suc (suc (suc zero))))) h k e = simp (e, and-false)
    no_number (suc (suc (suc (suc (suc (suc i)))))) h k e = absurd (omega arith)

    pub fresh_start : {t l u v : ℕ} → (is_number (at fs 2) ≡ true) × (t ≡ value (at fs 2)) → (is_number (at fs 3) ≡ true) × (l ≡ value (at fs 3))
        → (is_number (at fs 4) ≡ true) × (u ≡ value (at fs 4)) → (is_number (at fs 5) ≡ true) × (v ≡ value (at fs 5))
        → Some (record { strict = strict; limit = t; lifetime = l; upload = u; response = v }) ≡ config_of strict fs
    unfolding config_of
    fresh_start t l u v = rw (t.0, l.0, u.0, v.0, t.1, l.1, u.1, v.1)
