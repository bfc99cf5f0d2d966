-- Going from option to option shows each of those that the bytes mean, then the end. Assumes nothing.
use mathlib.Core.Path.{◌≡◌, refl, sym, ap, ◌∙◌}
use mathlib.Core.List.{List, [], ◌∷◌}
use Prim.Native.Nat.{ℕ, ◌+◌, ◌-◌, ◌≤◌}
use native.Mathlib.Omega.{arith}
use lib.ListN.{length, take, drop, length-drop}
use lib.Seq.{drop-drop}
use Rattle.pieces.specs.Memory.{within}
use Rattle.pieces.proofs.Memory.{within-there}
use Rattle.message_format.specs.Format.{CoapOption, next_in, options, options_of}
use Rattle.message_format.specs.Format.{Next, an_option, no_more}
use Rattle.std.specs.Prelude.{Some, None, Ok, Err}
use Rattle.message_format.proofs.Laws.{next-bounds, options-end, options-bad, no-options, first-tells}
use Rattle.one_option.specs.Index.{counted, next_at}

value-shown : (bytes : List ℕ) (at from to : ℕ) → from ≤ to → to ≤ length (drop at bytes) → at ≤ length bytes → within bytes (at + from) (at + to) ≡ take (to - from) (drop from (drop at bytes))
value-shown bytes at from to h k l =
    let span : at + to - (at + from) ≡ to - from = omega arith in
    sym (within-there bytes (at + from) (at + to) (omega arith) (omega (arith, length-drop at bytes))) ∙ rw (span, drop-drop from at bytes)

-- What is next, where options are left: the first of them, with its value, and the others after it.
pub record NextIs (bytes : List ℕ) (at before : ℕ) (o : CoapOption) (list : List CoapOption) (left : List ℕ) : Type 0 where
  pub from : ℕ
  pub to : ℕ
  pub next : next_at bytes at before ≡ an_option o.number from to
  pub shown : within bytes from to ≡ o.value
  pub rest : options_of o.number (drop to bytes) ≡ options list left
  pub there : to ≤ length bytes

module _ (bytes : List ℕ) (at before : ℕ) (left : List ℕ) (h : at ≤ length bytes) where
  pub next-shown : (o : CoapOption) (list : List CoapOption) → options_of before (drop at bytes) ≡ options (o ∷ list) left → NextIs bytes at before o list left
  next-shown o list e = go (next_in before (drop at bytes)) refl
    where
      go : (next : Next) → next_in before (drop at bytes) ≡ next → NextIs bytes at before o list left
      go (Ok (Some k)) p =
          let w = first-tells before (drop at bytes) k.number k.from k.to (o ∷ list) left p e in
          let is : o ≡ record { number = k.number; value = take (k.to - k.from) (drop k.from (drop at bytes)) } = cc w.2 in
          let b = next-bounds before (drop at bytes) k.number k.from k.to p in
          let same : k.number ≡ o.number = ap (λ (x : CoapOption). x.number) (sym is) in
          record {
            from = at + k.from;
            to = at + k.to;
            next = ap (counted at) p ∙ ap (λ (n : ℕ). an_option n (at + k.from) (at + k.to)) same;
            shown = value-shown bytes at k.from k.to b.ends b.there h ∙ ap (λ (x : CoapOption). x.value) (sym is);
            rest = rw (← same) (ap (options_of k.number) (sym (drop-drop k.to at bytes)) ∙ w.1 ∙ ap (λ (l : List CoapOption). options l left) (cc w.2));
            there = omega (arith, b.there, length-drop at bytes);
          }
      go (Ok None) p = absurd (let z : ◌≡◌ {A = ℕ} 0 1 = cc (sym (options-end before (drop at bytes) p) ∙ e) in omega arith)
      go (Err _) p = absurd (no-options (sym (options-bad before (drop at bytes) p) ∙ e))

  -- And after the last one the end.
  pub end-shown : options_of before (drop at bytes) ≡ options [] left → next_at bytes at before ≡ no_more
  end-shown e = go (next_in before (drop at bytes)) refl
    where
      go : (next : Next) → next_in before (drop at bytes) ≡ next → counted at (next_in before (drop at bytes)) ≡ no_more
      go (Ok (Some k)) p =
          let w = first-tells before (drop at bytes) k.number k.from k.to [] left p e in
          absurd (let z : ◌≡◌ {A = ℕ} 0 1 = cc w.2 in omega arith)
      go (Ok None) p = ap (counted at) p
      go (Err _) p = absurd (no-options (sym (options-bad before (drop at bytes) p) ∙ e))
