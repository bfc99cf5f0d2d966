-- Lines one after another. Assumes nothing.
use mathlib.Core.Path.{◌≡◌, refl, sym, ap, ◌∙◌}
use mathlib.Core.Bool.{Bool, true, false, cond}
use mathlib.Core.List.{List, [], ◌∷◌, ◌++◌, append_assoc}
use Prim.Native.Nat.{ℕ, ◌+◌, ◌-◌, ◌≤◌, ◌<◌}
use native.Mathlib.Omega.{arith}
use lib.Dec.{ltb}
use lib.ListN.{length, take, drop, length-drop, length-append}
use lib.Seq.{take_at, take_all, length-take-le}
use borrow.Author.Tests.{ltb-false, eq-eqb, ne_eqb}
use Rattle.pieces.specs.Memory.{patch, Put}
use Rattle.script_cut.specs.Cut.{cut_at, between, UpTo}
use Rattle.script_cut.proofs.Splitting.{next_field, last-field, some-field}
use Rattle.script_state.specs.declared.State.{State}
use Rattle.script_state.specs.declared.Step.{Step}
use Rattle.script_state.specs.Start.{header, begun, one_more, unreadable_after, much}
use Rattle.fresh_start.specs.Leaves.{Leaves}
use Rattle.runner.specs.Lines.{Standing, standing, next_line, after_line, after_lines, waits_after, waits_after_lines, last_of, unended, after_last, last_text, after_script, waits_after_script}

-- ---- one line after another

pub stands : (replay : Bool) (s : Standing) (l : List ℕ) {up away m up' away' m' : List ℕ} {x z : Step} → Leaves (next_line replay s l) x up away m z up' away' m'
    → x.state.number ≡ one_more s.number → x.state.unreadable ≡ s.unreadable → standing z.state up' away' ≡ after_line replay s l
stands replay s l h e f =
    let unreadable = h.unreadable ∙ ap (unreadable_after (next_line replay s l).unread) f in
    λ i. record { config = h.config i; world = h.world i; number = (h.number ∙ e) i; unreadable = unreadable i }

module _ (replay : Bool) (s : Standing) (l : List ℕ) where
  one_more_lem : (ls : List (List ℕ)) → 0 < length ls → after_lines replay s (l ∷ ls) ≡ after_lines replay (after_line replay s l) ls
  unfolding after_lines
  one_more_lem [] h = absurd (omega arith)
  one_more_lem (m ∷ ls) h = refl

  waits-more : (waiting : List ℕ) (ls : List (List ℕ)) → 0 < length ls
      → waits_after_lines replay s waiting (l ∷ ls) ≡ waits_after_lines replay (after_line replay s l) (waits_after waiting (next_line replay s l).text) ls
  unfolding waits_after_lines
  waits-more waiting [] h = absurd (omega arith)
  waits-more waiting (m ∷ ls) h = refl

last_more : (l : List ℕ) (ls : List (List ℕ)) → 0 < length ls → last_of (l ∷ ls) ≡ last_of ls
unfolding last_of
last_more l [] h = absurd (omega arith)
last_more l (m ∷ ls) h = refl

-- What is still to be run comes to what the whole text comes to.
pub record Going (replay : Bool) (text : List ℕ) (s₀ s : Standing) (waiting₀ waiting : List ℕ) (from end : ℕ) : Type 0 where
  pub cut : UpTo 10 text from end
  pub runs : after_lines replay s (cut_at 10 (drop from text)) ≡ after_lines replay s₀ (cut_at 10 text)
  pub waits : waits_after_lines replay s waiting (cut_at 10 (drop from text)) ≡ waits_after_lines replay s₀ waiting₀ (cut_at 10 text)
  pub last : last_of (cut_at 10 (drop from text)) ≡ unended text

pub going_start : (replay : Bool) (text : List ℕ) (s : Standing) (waiting : List ℕ) (end : ℕ) → UpTo 10 text 0 end → Going replay text s s waiting waiting 0 end
going_start replay text s waiting end u = record { cut = u; runs = refl; waits = refl; last = refl }

module _ (replay : Bool) (text : List ℕ) (s₀ s : Standing) (waiting₀ waiting : List ℕ) (from end : ℕ) (g : Going replay text s₀ s waiting₀ waiting from end) where
  pub going_on : end < length text → (s' : Standing) (waiting' : List ℕ) (end' : ℕ) → s' ≡ after_line replay s (between text from end)
      → waiting' ≡ waits_after waiting (next_line replay s (between text from end)).text → UpTo 10 text (end + 1) end' → Going replay text s₀ s' waiting₀ waiting' (end + 1) end'
  going_on h s' waiting' end' e ew u =
      let later : List (List ℕ) = cut_at 10 (drop (end + 1) text) in
      let some : 0 < length later = some-field 10 (drop (end + 1) text) in
      let first : cut_at 10 (drop from text) ≡ between text from end ∷ later = next_field 10 text from end g.cut h in
      record {
        cut = u;
        runs = ap (λ (x : Standing). after_lines replay x later) e ∙ sym (one_more_lem replay s (between text from end) later some) ∙ ap (after_lines replay s) (sym first) ∙ g.runs;
        waits = (λ i. waits_after_lines replay (e i) (ew i) later) ∙ sym (waits-more replay s (between text from end) waiting later some) ∙ ap (waits_after_lines replay s waiting) (sym first) ∙ g.waits;
        last = sym (last_more (between text from end) later some) ∙ ap last_of (sym first) ∙ g.last;
      }

  pub going_done : length text ≤ end
      → (s ≡ after_lines replay s₀ (cut_at 10 text)) × ((waiting ≡ waits_after_lines replay s₀ waiting₀ (cut_at 10 text)) × ((from ≤ length text) × (drop from text ≡ unended text)))
  unfolding after_lines waits_after_lines last_of
  going_done h =
      let only : cut_at 10 (drop from text) ≡ between text from end ∷ [] = last-field 10 text from end g.cut h in
      let all : between text from end ≡ drop from text = take_all (end - from) (drop from text) (rw (length-drop from text) (omega arith)) in (
        ap (after_lines replay s) (sym only) ∙ g.runs,
        (ap (waits_after_lines replay s waiting) (sym only) ∙ g.waits, (omega (arith, g.cut.after, g.cut.within), sym all ∙ ap last_of (sym only) ∙ g.last)),
      )

-- ---- what waits

-- What was put waits behind what waited before it.
pub put-waits : {m : List ℕ} {at : ℕ} {b m' : List ℕ} {r : ℕ} → Put m at b m' r → take r m' ≡ take at m ++ b
unfolding patch
put-waits {m} {at} {b} {m'} {r} p =
    let front : length (take at m) ≡ at = length-take-le at m (omega (arith, p.room)) in
    let long : length (take at m ++ b) ≡ r = length-append (take at m) b ∙ omega (arith, front, p.to) in
    ap (take r) (p.is ∙ sym (append_assoc (take at m) b (drop (at + length b) m))) ∙ take_at (take at m ++ b) (drop (at + length b) m) r long

-- And is written where it is much.
pub put-flushed : {m : List ℕ} {at : ℕ} {b m' : List ℕ} {r k : ℕ} → Put m at b m' r → k ≡ cond (ltb much r) 0 r → take k m' ≡ waits_after (take at m) b
unfolding waits_after
put-flushed {m} {at} {b} {m'} {r} {k} p e =
    let w : take r m' ≡ take at m ++ b = put-waits p in
    let long : r ≡ length (take at m ++ b) = sym (length-append (take at m) b ∙ omega (arith, length-take-le at m (omega (arith, p.room)), p.to)) in
    rw (e, ← long, ← w) (go (ltb much r))
  where
    go : (t : Bool) → take (cond t 0 r) m' ≡ cond t [] (take r m')
    go true = refl
    go false = refl

pub few : (r : ℕ) (k : ℕ) → k ≡ cond (ltb much r) 0 r → k ≤ much
few r k e = rw e (go (ltb much r) refl)
  where
    go : (t : Bool) → ltb much r ≡ t → cond t 0 r ≤ much
    go true f = omega arith
    go false f = omega (arith, ltb-false much r f)

-- ---- the last line

module _ (replay : Bool) (s : Standing) (l : List ℕ) where
  pub none_last : length l ≡ 0 → (s ≡ after_last replay s l) × ([] ≡ last_text replay s l)
  unfolding after_last last_text
  none_last h = (rw (eq-eqb (length l) 0 h), rw (eq-eqb (length l) 0 h))

  pub some-last : (length l ≡ 0 → ⊥) → (after_line replay s l ≡ after_last replay s l) × ((next_line replay s l).text ≡ last_text replay s l)
  unfolding after_last last_text
  some-last h = (rw (ne_eqb (length l) 0 h), rw (ne_eqb (length l) 0 h))

-- ---- a whole script

-- The part from an index on is all that is left.
pub rest_of : (l : List ℕ) (from : ℕ) → take (length l - from) (drop from l) ≡ drop from l
rest_of l from = take_all (length l - from) (drop from l) (rw (length-drop from l) (omega arith))

-- From the start on: the lines that have ended, and the last.
pub script-done : (b : State) (up away text rest : List ℕ) (s₁ s₂ : Standing) (w₀ w₁ w₂ : List ℕ) → b ≡ begun → w₀ ≡ header
    → s₁ ≡ after_lines false (standing b up away) (cut_at 10 text) → w₁ ≡ waits_after_lines false (standing b up away) w₀ (cut_at 10 text) → rest ≡ unended text
    → s₂ ≡ after_last false s₁ rest → w₂ ≡ w₁ ++ last_text false s₁ rest
    → (s₂ ≡ after_script (standing begun up away) text) × (w₂ ≡ waits_after_script (standing begun up away) text)
unfolding after_script waits_after_script
script-done b up away text rest s₁ s₂ w₀ w₁ w₂ eb ew e₁ f₁ er e₂ f₂ =
    let s : s₁ ≡ after_lines false (standing begun up away) (cut_at 10 text) = e₁ ∙ ap (λ (x : State). after_lines false (standing x up away) (cut_at 10 text)) eb in
    let w : w₁ ≡ waits_after_lines false (standing begun up away) header (cut_at 10 text) = f₁ ∙ (λ i. waits_after_lines false (standing (eb i) up away) (ew i) (cut_at 10 text)) in
    (e₂ ∙ (λ i. after_last false (s i) (er i)), f₂ ∙ (λ i. w i ++ last_text false (s i) (er i)))
