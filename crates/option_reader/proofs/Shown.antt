-- The n-th option of a number that is found is the n-th of those that the bytes mean. Assumes nothing.
use mathlib.Core.Path.{◌≡◌, refl, sym, ap, ◌∙◌}
use mathlib.Core.Bool.{Bool, true, false, cond}
use mathlib.Core.List.{List, [], ◌∷◌}
use Prim.Native.Nat.{ℕ, ◌-◌, ◌≤◌}
use lib.Dec.{eqb}
use lib.ListN.{length, drop}
use Rattle.message_format.specs.Format.{CoapOption, options, options_of, no_more}
use borrow.Author.Tests.{eqb-true, eqb-false}
use Rattle.std.specs.Prelude.{Some}
use Rattle.message_format.proofs.Laws.{end-no-option}
use Rattle.one_option.specs.Index.{next_at}
use Rattle.one_option.proofs.Shown.{NextIs, next-shown, end-shown}
use Rattle.option_reader.specs.Reader.{found_from, nth_of, value_at}
use Rattle.option_reader.proofs.Laws.{found_none, found_here, found-later, found-other}

pub shown-from : (bytes : List ℕ) (wanted : ℕ) (list : List CoapOption) (left : List ℕ) (at before n : ℕ) → at ≤ length bytes → options_of before (drop at bytes) ≡ options list left
    → value_at bytes (found_from bytes at before wanted n) ≡ nth_of wanted n list
unfolding nth_of
shown-from bytes wanted [] left at before n h e =
    ap (value_at bytes) (sym (found_none bytes at before wanted n no_more (sym (end-shown bytes at before left h e)) (λ number from to p. end-no-option p)))
shown-from bytes wanted (o ∷ list) left at before n h e = go (eqb o.number wanted) (eqb n 0) refl refl (λ k. shown-from bytes wanted list left is.to o.number k is.there is.rest)
  where
    is : NextIs bytes at before o list left
    is = next-shown bytes at before left h o list e

    go : (x y : Bool) → eqb o.number wanted ≡ x → eqb n 0 ≡ y → ((k : ℕ) → value_at bytes (found_from bytes is.to o.number wanted k) ≡ nth_of wanted k list)
        → value_at bytes (found_from bytes at before wanted n) ≡ cond x (cond y (Some o.value) (nth_of wanted (n - 1) list)) (nth_of wanted n list)
    go true true p q more =
        ap (value_at bytes)
        (sym (found_here bytes at before wanted n (next_at bytes at before) refl o.number is.from is.to is.next (eqb-true o.number wanted p) (eqb-true n 0 q)))
        ∙ ap Some is.shown
    go true false p q more =
        ap (value_at bytes)
        (sym (found-later bytes at before wanted n (next_at bytes at before) refl o.number is.from is.to is.next (eqb-true o.number wanted p) (eqb-false n 0 q)))
        ∙ more (n - 1)
    go false y p q more =
        ap (value_at bytes) (sym (found-other bytes at before wanted n (next_at bytes at before) refl o.number is.from is.to is.next (eqb-false o.number wanted p)))
        ∙ more n
