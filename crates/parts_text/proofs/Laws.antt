-- A walk over the options of a message, and the text that it leaves. Assumes nothing.
use mathlib.Core.Path.{◌≡◌, refl, sym, ap, ◌∙◌}
use mathlib.Core.List.{List, [], ◌∷◌, ◌++◌, append_assoc, append-nil}
use Prim.Native.Nat.{ℕ, ◌+◌, ◌-◌, ◌*◌, ◌≤◌}
use native.Mathlib.Omega.{arith}
use lib.ListN.{length, take, drop, length-take, length-drop}
use lib.Seq.{drop-drop}
use Rattle.pieces.specs.Memory.{Put}
use Rattle.pieces.proofs.Puts.{put-length, put-none, put_then, put_as}
use Rattle.message_format.specs.Format.{CoapOption, options, next_in, options_of}
use Rattle.one_option.specs.Index.{counted, next_at}
use Rattle.message_format.specs.Format.{Next, placed, an_option, no_more, no_form}
use Rattle.message_format.specs.declared.OptionPlace.{OptionPlace}
use Rattle.std.specs.Prelude.{Some, None, Ok, Err}
use Rattle.message_format.proofs.Laws.{same-place, no-options, first-tells, options-end, options-bad}
use Rattle.one_option.proofs.Laws.{at_bounds}
use Rattle.parts_text.specs.Parts.{option_text, more_text, options_text}

-- ---- what stands at an index

-- the same option, counted from that index
pub record Stands (at : ℕ) (next : Next) (number from to : ℕ) : Type 0 where
  pub start : ℕ
  pub end : ℕ
  pub is : next ≡ an_option number start end
  pub from_is : from ≡ at + start
  pub to_is : to ≡ at + end

stands : (at : ℕ) (next : Next) (number from to : ℕ) → counted at next ≡ an_option number from to → Stands at next number from to
stands at (Ok (Some o)) number from to e =
    let place = same-place (placed o.number (at + o.from) (at + o.to)) (placed number from to) e in
    record {
      start = o.from;
      end = o.to;
      is = ap (λ (p : OptionPlace). an_option p.number o.from o.to) place;
      from_is = ap (λ (p : OptionPlace). p.from) (sym place);
      to_is = ap (λ (p : OptionPlace). p.to) (sym place);
    }
stands at (Ok None) number from to e = absurd (let z : ◌≡◌ {A = ℕ} 0 1 = cc in omega arith)
stands at (Err _) number from to e = absurd (let z : ◌≡◌ {A = ℕ} 0 1 = cc in omega arith)

ends : (at : ℕ) (next : Next) → counted at next ≡ no_more → next ≡ no_more
ends at (Ok (Some o)) e = absurd (let z : ◌≡◌ {A = ℕ} 0 1 = cc in omega arith)
ends at (Ok None) e = refl
ends at (Err _) e = absurd (let z : ◌≡◌ {A = ℕ} 0 1 = cc in omega arith)

bad : (at : ℕ) (next : Next) → counted at next ≡ no_form → next ≡ no_form
bad at (Ok (Some o)) e = absurd (let z : ◌≡◌ {A = ℕ} 0 1 = cc in omega arith)
bad at (Ok None) e = absurd (let z : ◌≡◌ {A = ℕ} 0 1 = cc in omega arith)
bad at (Err _) e = refl

module _ (bytes : List ℕ) (at before : ℕ) where
  module _ (list : List CoapOption) (left : List ℕ) (are : options_of before (drop at bytes) ≡ options list left) where
    -- the options are the one that stands there and those after it
    pub option-first : (number from to : ℕ) → next_at bytes at before ≡ an_option number from to
        → (more : List CoapOption) × (options_of number (drop to bytes) ≡ options more left) × (list ≡ record { number = number; value = take (to - from) (drop from bytes) } ∷ more)
    option-first number from to e =
        let s = stands at (next_in before (drop at bytes)) number from to e in
        let w = first-tells before (drop at bytes) number s.start s.end list left s.is are in
        let after : drop s.end (drop at bytes) ≡ drop to bytes = drop-drop s.end at bytes ∙ ap (λ (n : ℕ). drop n bytes) (sym s.to_is) in
        let inside : drop s.start (drop at bytes) ≡ drop from bytes = drop-drop s.start at bytes ∙ ap (λ (n : ℕ). drop n bytes) (sym s.from_is) in
        let long : s.end - s.start ≡ to - from = omega (arith, s.from_is, s.to_is) in
        (w.0, ap (options_of number) (sym after) ∙ w.1, w.2 ∙ (λ i. record { number = number; value = take (long i) (inside i) } ∷ w.0))

    pub options-over : next_at bytes at before ≡ no_more → (list ≡ []) × (left ≡ drop at bytes)
    options-over e =
        let o : options list left ≡ options [] (drop at bytes) = sym are ∙ options-end before (drop at bytes) (ends at (next_in before (drop at bytes)) e) in
        ((cc), cc)

    pub options-broken : next_at bytes at before ≡ no_form → ⊥
    options-broken e = no-options (sym (options-bad before (drop at bytes) (bad at (next_in before (drop at bytes)) e)) ∙ are)

-- ---- the walk

-- Some options are written, and the others stand from an index on.
pub record Walked (out₀ : List ℕ) (start : ℕ) (bytes : List ℕ) (list : List CoapOption) (left out : List ℕ) (k at before : ℕ) : Type 0 where
  pub done : List ℕ
  pub rest : List CoapOption
  pub written : Put out₀ start done out k
  pub text : done ++ more_text rest ≡ more_text list
  pub are : options_of before (drop at bytes) ≡ options rest left

pub walked_start : (out : List ℕ) (start : ℕ) (bytes : List ℕ) (list : List CoapOption) (left : List ℕ) (first before : ℕ) → start ≤ length out
    → options_of before (drop first bytes) ≡ options list left
    → Walked out start bytes list left out start first before
walked_start out start bytes list left first before h e = record { done = []; rest = list; written = put-none out start h; text = refl; are = e }

module _ {out₀ : List ℕ} {start : ℕ} {bytes : List ℕ} {list : List CoapOption} {left out : List ℕ} {k at before : ℕ} (w : Walked out₀ start bytes list left out k at before) where
  pub walked-turn : (number from to : ℕ) → next_at bytes at before ≡ an_option number from to
      → {out₁ out₂ : List ℕ} {k₁ k₂ : ℕ} → Put out k (44 ∷ []) out₁ k₁ → Put out₁ k₁ (option_text number (take (to - from) (drop from bytes))) out₂ k₂
      → Walked out₀ start bytes list left out₂ k₂ to number
  unfolding more_text
  walked-turn number from to e p q =
      let text : List ℕ = option_text number (take (to - from) (drop from bytes)) in
      let o = option-first bytes at before w.rest left w.are number from to e in
      record {
        done = w.done ++ (44 ∷ text);
        rest = o.0;
        written = put_then w.written (put_then p q);
        text = append_assoc w.done (44 ∷ text) (more_text o.0) ∙ ap (λ (l : List CoapOption). w.done ++ more_text l) (sym o.2) ∙ w.text;
        are = o.1;
      }

  pub walked-done : next_at bytes at before ≡ no_more → Put out₀ start (more_text list) out k × (length left ≡ length bytes - at)
  unfolding more_text
  walked-done e =
      let o = options-over bytes at before w.rest left w.are e in
      let all : w.done ≡ more_text list = sym (append-nil w.done) ∙ ap (λ (l : List CoapOption). w.done ++ more_text l) (sym o.0) ∙ w.text in
      (put_as w.written all, ap length o.1 ∙ length-drop at bytes)

  pub walked-broken : next_at bytes at before ≡ no_form → ⊥
  walked-broken e = options-broken bytes at before w.rest left w.are e

-- What holds at each turn: the room, and the walk if the options can be read.
pub record Walking (out₀ : List ℕ) (start : ℕ) (bytes : List ℕ) (first before : ℕ) (out : List ℕ) (k at last : ℕ) : Type 0 where
  pub same : length out ≡ length out₀
  pub within : at ≤ length bytes
  pub room : k + 8 * (length bytes - at) ≤ start + 8 * (length bytes - first)
  pub walked : (list : List CoapOption) (left : List ℕ) → options_of before (drop first bytes) ≡ options list left → Walked out₀ start bytes list left out k at last

pub walking_start : (out : List ℕ) (start : ℕ) (bytes : List ℕ) (first before : ℕ) → first ≤ length bytes → start ≤ length out → Walking out start bytes first before out start first before
walking_start out start bytes first before h r = record { same = refl; within = h; room = omega arith; walked = λ list left e. walked_start out start bytes list left first before r e }

-- the value of an option that stands in the message
pub value-length : (bytes : List ℕ) (from to : ℕ) → from ≤ to → to ≤ length bytes → length (take (to - from) (drop from bytes)) ≡ to - from
value-length bytes from to h k = simp (length-take, length-drop) (omega arith)

module _ {out₀ : List ℕ} {start : ℕ} {bytes : List ℕ} {first before : ℕ} {out : List ℕ} {k at last : ℕ} (w : Walking out₀ start bytes first before out k at last) where
  pub walking-turn : (number from to : ℕ) → next_at bytes at last ≡ an_option number from to
      → {out₁ out₂ : List ℕ} {k₁ k₂ : ℕ} → Put out k (44 ∷ []) out₁ k₁ → Put out₁ k₁ (option_text number (take (to - from) (drop from bytes))) out₂ k₂
      → k₂ ≤ k₁ + 2 * length (take (to - from) (drop from bytes)) + 7
      → Walking out₀ start bytes first before out₂ k₂ to number
  walking-turn number from to e p q h =
      let b = at_bounds bytes at last number from to e in
      record {
        same = put-length q ∙ put-length p ∙ w.same;
        within = b.there;
        room = omega (arith, h, p.to, value-length bytes from to b.ends b.there, w.room, b.starts, b.ends, b.there);
        walked = λ list left a. walked-turn (w.walked list left a) number from to e p q;
      }

  module _ (list : List CoapOption) (left : List ℕ) (are : options_of before (drop first bytes) ≡ options list left) where
    pub walking-done : next_at bytes at last ≡ no_more → Put out₀ start (more_text list) out k × (k + 8 * length left ≤ start + 8 * (length bytes - first))
    walking-done e = let d = walked-done (w.walked list left are) e in (d.0, omega (arith, d.1, w.room))

    pub walking-broken : next_at bytes at last ≡ no_form → ⊥
    walking-broken e = walked-broken (w.walked list left are) e

-- ---- all options

module _ (bytes : List ℕ) (first : ℕ) (list : List CoapOption) (left : List ℕ) (are : options_of 0 (drop first bytes) ≡ options list left) where
  pub text-none : next_at bytes first 0 ≡ no_more → 45 ∷ [] ≡ options_text list
  unfolding options_text
  text-none e = let o = options-over bytes first 0 list left are e in rw o.0

  pub text-some : (number from to : ℕ) → next_at bytes first 0 ≡ an_option number from to
      → (more : List CoapOption) × (options_of number (drop to bytes) ≡ options more left) × (option_text number (take (to - from) (drop from bytes)) ++ more_text more ≡ options_text list)
  unfolding options_text
  text-some number from to e =
      let o = option-first bytes first 0 list left are number from to e in
      (o.0, o.1, ap options_text (sym o.2))
