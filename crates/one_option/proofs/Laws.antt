-- The laws of the option at an index of the message. Assumes nothing.
use mathlib.Core.Path.{◌≡◌, refl, sym, ap, ◌∙◌}
use mathlib.Core.List.{List}
use Prim.Native.Nat.{ℕ, ◌+◌, ◌-◌, ◌≤◌, ◌<◌}
use native.Mathlib.Omega.{arith}
use lib.ListN.{length, take, drop, length-drop, drop_of_length-le}
use Rattle.message_format.specs.Format.{next_in}
use Rattle.message_format.specs.Format.{Next, placed, an_option, no_more}
use Rattle.message_format.specs.declared.OptionPlace.{OptionPlace}
use Rattle.std.specs.Prelude.{Some, None, Ok, Err}
use Rattle.message_format.proofs.Laws.{same-place, bad-no-option, end-no-option, next-bounds, rest_of}
use Rattle.one_option.specs.Index.{counted, next_at}

pub at-past : (bytes : List ℕ) (at before : ℕ) → length bytes < at → no_more ≡ next_at bytes at before
unfolding next_in
at-past bytes at before h = rw (drop_of_length-le bytes {i = at} (omega arith))

pub record BoundedAt (bytes : List ℕ) (at before number from to : ℕ) : Type 0 where
  pub starts : at < from
  pub ends : from ≤ to
  pub there : to ≤ length bytes

pub index-bounds : (bytes : List ℕ) (at before : ℕ) (next : Next) → next ≡ next_in before (take (length bytes - at) (drop at bytes)) → at ≤ length bytes
    → (number from to : ℕ) → next ≡ an_option number from to → BoundedAt bytes at before number (at + from) (at + to)
index-bounds bytes at before next is h number from to e =
    let b = next-bounds before (drop at bytes) number from to (sym (is ∙ ap (next_in before) (rest_of bytes at)) ∙ e) in
    let l = length-drop at bytes in
    record { starts = omega (arith, b.starts); ends = omega (arith, b.ends); there = omega (arith, b.there) }

pub at_bounds : (bytes : List ℕ) (at before number from to : ℕ) → next_at bytes at before ≡ an_option number from to → BoundedAt bytes at before number from to
unfolding next_in
at_bounds bytes at before number from to = go (next_in before (drop at bytes)) refl
  where
    go : (n : Next) → next_in before (drop at bytes) ≡ n → counted at n ≡ an_option number from to → BoundedAt bytes at before number from to
    go (Ok (Some o)) p e =
        let b = next-bounds before (drop at bytes) o.number o.from o.to p in
        let l = length-drop at bytes in
        let place = sym (same-place (placed o.number (at + o.from) (at + o.to)) (placed number from to) e) in
        let is-from : from ≡ at + o.from = ap (λ (x : OptionPlace). x.from) place in
        let is-to : to ≡ at + o.to = ap (λ (x : OptionPlace). x.to) place in
        record { starts = omega (arith, b.starts); ends = omega (arith, b.ends); there = omega (arith, b.there, b.starts, b.ends) }
    go (Ok None) p e = absurd (end-no-option e)
    go (Err _) p e = absurd (bad-no-option e)
