-- The text of the entries, as the loop puts it together. Assumes nothing.
use Rattle.std.proofs.Common.{◌≡◌, ℕ, ◌+◌, ◌*◌, ◌<◌, ◌≤◌, Bool, true, false, cond, ltb, List, [], ◌∷◌, ◌++◌, length, get_or, drop, sym, refl, ap, ◌∙◌, append_assoc, append-nil, arith, length-append, drop_of_length-le, le-ltb, lt-ltb}
use Rattle.script_cut.specs.Cut.{Bytes}
use Rattle.pieces.specs.Memory.{Put}
use Rattle.script_text.specs.Text.{none}
use Rattle.pieces.proofs.Puts.{put-none, put_then, put_as, put-length}
use Rattle.entries.specs.declared.Entry.{Entry}
use Rattle.keys.proofs.Turns.{drop-step}
use Rattle.entry_text.specs.Entry.{entry_text}
use Rattle.state_text.specs.State.{used_texts, continued, joined, entries_text, next_text}

pub entry-some : (i : ℕ) (e : Entry) → 0 < length (entry_text i e)
unfolding entry_text
entry-some i e = simp length-append (omega arith)

empty : (d : Bytes) → length d ≡ 0 → d ≡ []
empty [] h = refl
empty (x ∷ d) h = absurd (omega arith)

-- The whole text, where this is done and these are left.
pub whole : Bytes → List Bytes → Bytes
whole done ts = cond (ltb 0 (length done)) (done ++ continued ts) (joined ts)

whole-next : (used : Bool) (done t : Bytes) (ts : List Bytes) → 0 < length t
    → whole done (cond used (t ∷ ts) ts) ≡ whole (done ++ cond used (cond (ltb 0 (length done)) (59 ∷ t) t) []) ts
unfolding whole joined continued
whole-next false done t ts h = rw (append-nil done)
whole-next true [] t ts h = rw (lt-ltb 0 (length t) h)
whole-next true (x ∷ done) t ts h =
    let some : (d : Bytes) → ltb 0 (length (x ∷ d)) ≡ true = λ d. lt-ltb 0 (length (x ∷ d)) (omega arith) in
    rw (some done, some (done ++ (59 ∷ t))) (ap (λ (l : Bytes). x ∷ l) (sym (append_assoc done (59 ∷ t) (continued ts))))

-- what holds after i entries
pub record Shown (m : Bytes) (at : ℕ) (es : List Entry) (m' : Bytes) (k i : ℕ) : Type 0 where
  pub within : i ≤ length es
  pub same : length m' ≡ length m
  pub reach : k ≤ at + 401 * i
  pub done : Bytes
  pub put : Put m at done m' k
  pub is : entries_text es ≡ whole done (used_texts i (drop i es))

pub shown-start : (m : Bytes) (at : ℕ) (es : List Entry) → at ≤ length m → Shown m at es m at 0
unfolding entries_text whole
shown-start m at es h =
    record { within = omega arith; same = refl; reach = omega arith; done = []; put = put-none m at h; is = refl }

module _ {m : Bytes} {at : ℕ} {es : List Entry} {m' : Bytes} {k i : ℕ} (s : Shown m at es m' k i) where
  -- something is put already exactly if the next goes further on
  begun : ltb at k ≡ ltb 0 (length s.done)
  begun = ap (ltb at) s.put.to ∙ go s.done
    where
      go : (d : Bytes) → ltb at (at + length d) ≡ ltb 0 (length d)
      go [] = le-ltb at (at + 0) (omega arith)
      go (x ∷ d) = lt-ltb at (at + length (x ∷ d)) (omega arith) ∙ sym (lt-ltb 0 (length (x ∷ d)) (omega arith))

  pub shown-turn : (d : Entry) {n : ℕ} {m'' : Bytes} {r : ℕ} → i < length es → n ≡ i → Put m' k (next_text (ltb at k) n (get_or es i d)) m'' r → r ≤ k + 401
      → Shown m at es m'' r (i + 1)
  unfolding next_text used_texts
  shown-turn d h e p w =
      let entry : Entry = get_or es i d in
      let t : Bytes = entry_text i entry in
      let left : used_texts i (drop i es) ≡ cond entry.used (t ∷ used_texts (i + 1) (drop (i + 1) es)) (used_texts (i + 1) (drop (i + 1) es)) = rw (drop-step es i d h) in
      record {
        within = omega arith;
        same = put-length p ∙ s.same;
        reach = omega (arith, s.reach);
        done = s.done ++ cond entry.used (cond (ltb 0 (length s.done)) (59 ∷ t) t) [];
        put = put_then s.put (put_as p (rw (begun, e)));
        is = s.is ∙ ap (whole s.done) left ∙ whole-next entry.used s.done t (used_texts (i + 1) (drop (i + 1) es)) (entry-some i entry);
      }

  all_done : length es ≤ i → entries_text es ≡ whole s.done []
  unfolding used_texts
  all_done h = s.is ∙ rw (drop_of_length-le es {i = i} h)

  pub shown-none : {m'' : Bytes} {r : ℕ} → length es ≤ i → k ≡ at → Put m' k none m'' r → Put m at (entries_text es) m'' r
  unfolding whole joined
  shown-none h e p =
      let no : s.done ≡ [] = empty s.done (omega (arith, s.put.to)) in
      let is : entries_text es ≡ none = all_done h ∙ rw no in
      put_as (put_then s.put p) (rw (no, is))

  pub shown-some : length es ≤ i → (k ≡ at → ⊥) → Put m at (entries_text es) m' k
  unfolding whole continued
  shown-some h ne =
      let some : 0 < length s.done = omega (arith, s.put.to, ne) in
      put_as s.put (sym (all_done h ∙ rw (lt-ltb 0 (length s.done) some, append-nil s.done)))
