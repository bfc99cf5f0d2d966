-- The laws of the format's definitions, by their cases: one option, all options. Assumes nothing.
use mathlib.Core.Path.{◌≡◌, refl, sym, ap, ◌∙◌}
use mathlib.Core.Bool.{Bool, true, false, cond}
use mathlib.Core.List.{List, [], ◌∷◌}
use Prim.Native.Nat.{ℕ, zero, suc, ◌+◌, ◌-◌, ◌/◌, ◌%◌, ◌≤◌, ◌<◌}
use native.Mathlib.Omega.{arith}
use lib.Dec.{ltb, eqb}
use lib.ListN.{length, take, drop, get_or, length-drop}
use lib.Seq.{take_all}
use borrow.Author.Tests.{le-ltb, ne_eqb, ltb-false, eqb-true}
use Rattle.message_format.specs.Format.{CoapOption, payload_bytes, extended, value_from, value_to, option_in, marked, next_in}
use Rattle.message_format.specs.Format.{Options, broken, options, with_option, on_next, options_in, options_of}
use Rattle.message_format.specs.Format.{Next, placed, an_option, no_more, no_form}
use Rattle.message_format.specs.declared.OptionPlace.{OptionPlace}
use Rattle.std.specs.Prelude.{Some, None, Ok, Err}

-- ---- one option

pub option_is : (before delta len : ℕ) (rest : List ℕ) → delta ≤ 14 → len ≤ 14 → value_to delta len rest ≤ 1 + length rest → before + extended delta rest ≤ 65535
    → an_option (before + extended delta rest) (value_from delta len) (value_to delta len rest) ≡ option_in before delta len rest
unfolding option_in
option_is before delta len rest h k p f =
    rw (le-ltb 14 delta h, le-ltb 14 len k, le-ltb (1 + length rest) (value_to delta len rest) p, le-ltb 65535 (before + extended delta rest) f)

-- ---- what stands where an option may begin

module _ (before v : ℕ) where
  pub next-option : (bytes : List ℕ) → (length bytes ≡ 0 → ⊥) → v ≡ get_or bytes 0 0 → (v ≡ 255 → ⊥) → option_in before (v / 16) (v % 16) (drop 1 bytes) ≡ next_in before bytes
  unfolding next_in
  next-option [] h e n = absurd (h refl)
  next-option (b ∷ rest) h e n = rw (e, ne_eqb b 255 (λ p. n (e ∙ p)))

-- ---- what an option that was found tells

pub record IsOption (before delta len : ℕ) (rest : List ℕ) (number from to : ℕ) : Type 0 where
  pub delta-small : delta ≤ 14
  pub len-small : len ≤ 14
  pub room : value_to delta len rest ≤ 1 + length rest
  pub small : before + extended delta rest ≤ 65535
  pub number_is : number ≡ before + extended delta rest
  pub from_is : from ≡ value_from delta len
  pub to_is : to ≡ value_to delta len rest

pub same-place : (o p : OptionPlace) → ◌≡◌ {A = Next} (Ok (Some o)) (Ok (Some p)) → o ≡ p
same-place o p e = cc

pub bad-no-option : {number from to : ℕ} → no_form ≡ an_option number from to → ⊥
bad-no-option e = let z : ◌≡◌ {A = ℕ} 0 1 = cc in omega arith

pub end-no-option : {number from to : ℕ} → no_more ≡ an_option number from to → ⊥
end-no-option e = let z : ◌≡◌ {A = ℕ} 0 1 = cc in omega arith

module _ (before delta len : ℕ) (rest : List ℕ) (number from to : ℕ) where
  pub option-tells : option_in before delta len rest ≡ an_option number from to → IsOption before delta len rest number from to
  unfolding option_in
  option-tells = go (ltb 14 delta) (ltb 14 len) (ltb (1 + length rest) (value_to delta len rest)) (ltb 65535 (before + extended delta rest)) refl refl refl refl
    where
      go : (d l r s : Bool) → ltb 14 delta ≡ d → ltb 14 len ≡ l → ltb (1 + length rest) (value_to delta len rest) ≡ r → ltb 65535 (before + extended delta rest) ≡ s
          → cond d no_form (cond l no_form (cond r no_form (cond s no_form (an_option (before + extended delta rest) (value_from delta len) (value_to delta len rest)))))
          ≡ an_option number from to → IsOption before delta len rest number from to
      go true l r s p q t u e = absurd (bad-no-option e)
      go false true r s p q t u e = absurd (bad-no-option e)
      go false false true s p q t u e = absurd (bad-no-option e)
      go false false false true p q t u e = absurd (bad-no-option e)
      go false false false false p q t u e =
          let place = same-place (placed (before + extended delta rest) (value_from delta len) (value_to delta len rest)) (placed number from to) e in
          record {
            delta-small = ltb-false 14 delta p;
            len-small = ltb-false 14 len q;
            room = ltb-false (1 + length rest) (value_to delta len rest) t;
            small = ltb-false 65535 (before + extended delta rest) u;
            number_is = ap (λ (o : OptionPlace). o.number) (sym place);
            from_is = ap (λ (o : OptionPlace). o.from) (sym place);
            to_is = ap (λ (o : OptionPlace). o.to) (sym place);
          }

-- an option that is next begins with a byte other than the marker
pub next-tells : (before b : ℕ) (rest : List ℕ) (number from to : ℕ) → next_in before (b ∷ rest) ≡ an_option number from to → IsOption before (b / 16) (b % 16) rest number from to
unfolding next_in marked
next-tells before b rest number from to = go (eqb b 255)
  where
    no : (rest : List ℕ) → marked rest ≡ an_option number from to → ⊥
    no [] e = bad-no-option e
    no (x ∷ l) e = end-no-option e

    go : (m : Bool) → cond m (marked rest) (option_in before (b / 16) (b % 16) rest) ≡ an_option number from to → IsOption before (b / 16) (b % 16) rest number from to
    go true e = absurd (no rest e)
    go false e = option-tells before (b / 16) (b % 16) rest number from to e

pub record Bounded (before : ℕ) (bytes : List ℕ) (number from to : ℕ) : Type 0 where
  pub starts : 1 ≤ from
  pub ends : from ≤ to
  pub there : to ≤ length bytes
  pub rises : before ≤ number
  pub small : number ≤ 65535

pub next-bounds : (before : ℕ) (bytes : List ℕ) (number from to : ℕ) → next_in before bytes ≡ an_option number from to → Bounded before bytes number from to
unfolding next_in
next-bounds before [] number from to e = absurd (end-no-option e)
next-bounds before (b ∷ rest) number from to e =
    let is = next-tells before b rest number from to e in
    record { starts = omega (arith, is); ends = omega (arith, is); there = omega (arith, is); rises = omega (arith, is); small = omega (arith, is) }

pub bad-no-end : no_form ≡ no_more → ⊥
bad-no-end e = let z : ◌≡◌ {A = ℕ} 0 1 = cc in omega arith

pub option-no-end : (before delta len : ℕ) (rest : List ℕ) → option_in before delta len rest ≡ no_more → ⊥
unfolding option_in
option-no-end before delta len rest = go (ltb 14 delta) (ltb 14 len) (ltb (1 + length rest) (value_to delta len rest)) (ltb 65535 (before + extended delta rest))
  where
    go : (d l r s : Bool) → cond d no_form (cond l no_form (cond r no_form (cond s no_form (an_option (before + extended delta rest) (value_from delta len) (value_to delta len rest))))) ≡ no_more → ⊥
    go true l r s e = bad-no-end e
    go false true r s e = bad-no-end e
    go false false true s e = bad-no-end e
    go false false false true e = bad-no-end e
    go false false false false e = end-no-option (sym e)

-- ---- all options: one step at a time, however many are allowed for

enough : (f g before : ℕ) (bytes : List ℕ) → length bytes < f → length bytes < g → options_in f before bytes ≡ options_in g before bytes
unfolding options_in
enough zero g before bytes h k = absurd (omega arith)
enough (suc f) zero before bytes h k = absurd (omega arith)
enough (suc f) (suc g) before bytes h k = go (next_in before bytes) refl (λ number rest. enough f g number rest)
  where
    go : (n : Next) → next_in before bytes ≡ n → ((number : ℕ) (rest : List ℕ) → length rest < f → length rest < g → options_in f number rest ≡ options_in g number rest)
        → on_next bytes (λ number rest. options_in f number rest) n ≡ on_next bytes (λ number rest. options_in g number rest) n
    go (Ok (Some o)) e more =
        let b = next-bounds before bytes o.number o.from o.to e in
        let l = length-drop o.to bytes in
        ap (with_option o.number (take (o.to - o.from) (drop o.from bytes))) (more o.number (drop o.to bytes) (omega (arith, b)) (omega (arith, b)))
    go (Ok None) e more = refl
    go (Err _) e more = refl

pub no-options : {list : List CoapOption} {left : List ℕ} → broken ≡ options list left → ⊥
no-options e = let z : ◌≡◌ {A = ℕ} 0 1 = cc in omega arith

-- options that begin with one are that one, and those of the rest
pub with-tells : (number : ℕ) (value : List ℕ) (rest : Options) (list : List CoapOption) (left : List ℕ) → with_option number value rest ≡ options list left
    → (more : List CoapOption) × (rest ≡ options more left) × (list ≡ record { number = number; value = value } ∷ more)
with-tells number value broken list left e = absurd (no-options e)
with-tells number value (options more left') list left e = (more, (cc), cc)

module _ (before : ℕ) (bytes : List ℕ) where
  pub options-more : (number from to : ℕ) → next_in before bytes ≡ an_option number from to
      → options_of before bytes ≡ with_option number (take (to - from) (drop from bytes)) (options_of number (drop to bytes))
  unfolding options_in
  options-more number from to e =
      let b = next-bounds before bytes number from to e in
      let l = length-drop to bytes in
      ap (on_next bytes (λ number rest. options_in (length bytes) number rest)) e
      ∙ ap (with_option number (take (to - from) (drop from bytes))) (enough (length bytes) (suc (length (drop to bytes))) number (drop to bytes) (omega (arith, b)) (omega arith))

  pub options-end : next_in before bytes ≡ no_more → options_of before bytes ≡ options [] bytes
  unfolding options_in
  options-end e = ap (on_next bytes (λ number rest. options_in (length bytes) number rest)) e

  pub options-bad : next_in before bytes ≡ no_form → options_of before bytes ≡ broken
  unfolding options_in
  options-bad e = ap (on_next bytes (λ number rest. options_in (length bytes) number rest)) e

-- so the others, and that the list begins with it
pub first-tells : (before : ℕ) (bytes : List ℕ) (number from to : ℕ) (list : List CoapOption) (left : List ℕ)
    → next_in before bytes ≡ an_option number from to
    → options_of before bytes ≡ options list left
    → (more : List CoapOption) × (options_of number (drop to bytes) ≡ options more left) × (list ≡ record { number = number; value = take (to - from) (drop from bytes) } ∷ more)
first-tells before bytes number from to list left p e =
    let steps = sym (options-more before bytes number from to p) ∙ e in
    with-tells number (take (to - from) (drop from bytes)) (options_of number (drop to bytes)) list left steps

-- ---- where the options end

-- what the code lends of the rest is all of it
pub rest_of : (bytes : List ℕ) (to : ℕ) → take (length bytes - to) (drop to bytes) ≡ drop to bytes
rest_of bytes to = take_all (length bytes - to) (drop to bytes) (omega (arith, length-drop to bytes))

-- what is left is nothing, or a marker and a payload
next-left : (before : ℕ) (bytes : List ℕ) → next_in before bytes ≡ no_more → payload_bytes (drop 1 bytes) ≡ bytes
unfolding next_in payload_bytes marked
next-left before [] e = refl
next-left before (b ∷ rest) e = go (eqb b 255) rest refl e
  where
    go : (m : Bool) (rest : List ℕ) → eqb b 255 ≡ m → cond m (marked rest) (option_in before (b / 16) (b % 16) rest) ≡ no_more → payload_bytes rest ≡ b ∷ rest
    go true [] p e = absurd (bad-no-end e)
    go true (x ∷ rest) p e = ap (λ (y : ℕ). y ∷ x ∷ rest) (sym (eqb-true b 255 p))
    go false rest p e = absurd (option-no-end before (b / 16) (b % 16) rest e)

pub record LeftOf (bytes left : List ℕ) : Type 0 where
  pub marker : payload_bytes (drop 1 left) ≡ left
  pub short : length left ≤ length bytes

pub options-left : (most before : ℕ) (bytes : List ℕ) (list : List CoapOption) (left : List ℕ) → options_in most before bytes ≡ options list left → LeftOf bytes left
unfolding options_in
options-left zero before bytes list left e = absurd (no-options e)
options-left (suc most) before bytes list left e = go (next_in before bytes) refl (λ number rest l. options-left most number rest l left) e
  where
    go : (n : Next) → next_in before bytes ≡ n → ((number : ℕ) (rest : List ℕ) (l : List CoapOption) → options_in most number rest ≡ options l left → LeftOf rest left)
        → on_next bytes (λ number rest. options_in most number rest) n ≡ options list left → LeftOf bytes left
    go (Ok (Some o)) p more e =
        let w = with-tells o.number (take (o.to - o.from) (drop o.from bytes)) (options_in most o.number (drop o.to bytes)) list left e in
        let l = more o.number (drop o.to bytes) w.0 w.1 in
        record { marker = l.marker; short = omega (arith, l.short, length-drop o.to bytes) }
    go (Ok None) p more e = let same : bytes ≡ left = cc in rw (← same) (record { marker = next-left before bytes p; short = omega arith })
    go (Err _) p more e = absurd (no-options e)
