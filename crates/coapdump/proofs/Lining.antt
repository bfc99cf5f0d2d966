-- The lines of a text, one after another. Assumes nothing.
use Rattle.std.proofs.Common.{◌≡◌, ℕ, ◌+◌, ◌-◌, ◌%◌, ◌^◌, ◌<◌, ◌≤◌, Bool, cond, List, [], ◌∷◌, ◌++◌, length, take, drop, sym, refl, ap, ◌∙◌, append_assoc, arith, length-append, length-drop, take_all}
use Rattle.pieces.specs.Memory.{part, Put}
use Rattle.pieces.proofs.Memory.{part-patch}
use Rattle.script_cut.specs.Cut.{cut_at, between, UpTo}
use Rattle.script_cut.proofs.Splitting.{next_field, last-field}
use Rattle.hex_line.specs.Line.{passing, end_of, trimmed, is_skipped, hex_of, is_unread}
use Rattle.coapdump.specs.Lines.{Room, unread_in, Ended}

-- one line more
unread-more : (lines : List (List ℕ)) (line : List ℕ) → unread_in (lines ++ (line ∷ [])) ≡ unread_in lines + cond (is_unread (hex_of line)) 1 0
unfolding unread_in
unread-more [] line = omega arith
unread-more (l ∷ ls) line = omega (arith, unread-more ls line)

-- nothing is no unreadable line, and one line counts by what it says
pub unread-none : (text : List ℕ) → length text ≡ 0 → unread_in (text ∷ []) ≡ 0
unfolding unread_in hex_of trimmed end_of passing is_skipped
unread-none [] h = refl
unread-none (x ∷ xs) h = absurd (omega arith)

pub unread-one : (text : List ℕ) (b : Bool) → b ≡ is_unread (hex_of text) → cond b 1 0 ≡ unread_in (text ∷ [])
unfolding unread_in
unread-one text b e = ap (λ (t : Bool). cond t 1 0) e ∙ omega arith

-- Some lines are printed, and the next one ends at an index.
pub record Going (number unread : ℕ) (text : List ℕ) (count bad from end : ℕ) : Type 0 where
  pub lines : List (List ℕ)
  pub cut : cut_at 10 text ≡ lines ++ cut_at 10 (drop from text)
  pub up_to : UpTo 10 text from end
  pub counted : count ≡ (number + length lines) % 2 ^ 64
  pub missed : bad ≡ (unread + unread_in lines) % 2 ^ 64

pub going_start : (number unread : ℕ) (text : List ℕ) (end : ℕ) → number < 2 ^ 64 → unread < 2 ^ 64 → UpTo 10 text 0 end
    → Going number unread text number unread 0 end
unfolding unread_in
going_start number unread text end h k u = record { lines = []; cut = refl; up_to = u; counted = omega arith; missed = omega arith }

module _ {number unread : ℕ} {text : List ℕ} {count bad from end : ℕ} (g : Going number unread text count bad from end) where
  -- the line up to the end is printed
  pub going_on : end < length text → (count' bad' end' : ℕ) → count' ≡ (count + 1) % 2 ^ 64
      → bad' ≡ (bad + cond (is_unread (hex_of (between text from end))) 1 0) % 2 ^ 64 → UpTo 10 text (end + 1) end'
      → Going number unread text count' bad' (end + 1) end'
  going_on h count' bad' end' e f u =
      let later : List (List ℕ) = cut_at 10 (drop (end + 1) text) in
      let line : List ℕ = between text from end in
      record {
        lines = g.lines ++ (line ∷ []);
        cut = g.cut ∙ ap (λ (l : List (List ℕ)). g.lines ++ l) (next_field 10 text from end g.up_to h) ∙ sym (append_assoc g.lines (line ∷ []) later);
        up_to = u;
        counted = omega (arith, e, g.counted, length-append g.lines (line ∷ []));
        missed = omega (arith, f, g.missed, unread-more g.lines line);
      }

  pub going_done : length text ≤ end → Ended number unread text count bad from
  going_done h =
      let all : between text from end ≡ drop from text = take_all (end - from) (drop from text) (rw (length-drop from text) (omega arith)) in
      record {
        lines = g.lines;
        cut = g.cut ∙ ap (λ (l : List (List ℕ)). g.lines ++ l) (last-field 10 text from end g.up_to h ∙ ap (λ (l : List ℕ). l ∷ []) all);
        within = omega (arith, g.up_to.after, g.up_to.within);
        counted = g.counted;
        missed = g.missed;
      }

-- what is put at the start stands there
pub put_first : {m b m' : List ℕ} {r : ℕ} → Put m 0 b m' r → take (length b) m' ≡ b
unfolding part
put_first {m} {b} p = ap (take (length b)) p.is ∙ part-patch m 0 b (omega arith)

-- buffers of the same lengths
pub room-kept : (d b o : List ℕ) {d₀ b₀ o₀ : List ℕ} → Room d₀ b₀ o₀ → length d ≡ length d₀ → length b ≡ length b₀ → length o ≡ length o₀ → Room d b o
room-kept d b o r p q s =
    record { for-digits = omega (arith, r.for-digits, p); for-bytes = omega (arith, r.for-bytes, q); for-output = omega (arith, r.for-output, s) }
