-- The laws of the walks over the options: runs of them, and the n-th of a number. Assumes nothing.
use mathlib.Core.Path.{◌≡◌, refl, sym, ap, ◌∙◌}
use mathlib.Core.Bool.{cond}
use mathlib.Core.List.{List}
use Prim.Native.Nat.{ℕ, zero, suc, ◌+◌, ◌-◌, ◌≤◌, ◌<◌}
use native.Mathlib.Omega.{arith}
use lib.Dec.{eqb}
use lib.ListN.{length, take, drop, length-drop}
use lib.Seq.{drop-drop}
use borrow.Author.Tests.{eq-eqb, ne_eqb}
use Rattle.message_format.specs.Format.{next_in, Options, broken, options, with_option, options_of, Next, an_option, no_more, no_form}
use Rattle.message_format.proofs.Laws.{next-bounds, options-more, options-end, options-bad, rest_of}
use Rattle.one_option.specs.Index.{next_at}
use Rattle.one_option.proofs.Laws.{BoundedAt, at_bounds}
use Rattle.option_reader.specs.Reader.{between, ends_of, RunOf, on_found, found_in, found_from}
use Rattle.message_format.specs.declared.Malformed.{Malformed}
use Rattle.option_reader.specs.declared.Run.{Run}
use Rattle.option_reader.specs.declared.Run.TheVariants.{More, End}
use Rattle.std.specs.Prelude.{Some, None, Result, Ok, Err}

-- ---- where the options end

ends_with : (number : ℕ) (value : List ℕ) (rest : Options) → ends_of (with_option number value rest) ≡ ends_of rest
ends_with number value broken = refl
ends_with number value (options list left) = refl

-- after an option, the options end where those of the rest do
ends-after : (before : ℕ) (bytes : List ℕ) (number from to : ℕ) → next_in before bytes ≡ an_option number from to → ends_of (options_of number (drop to bytes)) ≡ ends_of (options_of before bytes)
ends-after before bytes number from to e =
    sym (ap ends_of (options-more before bytes number from to e) ∙ ends_with number (take (to - from) (drop from bytes)) (options_of number (drop to bytes)))

-- ---- runs of options

-- a run that goes on in the rest is one of the whole
run-whole : (before number to calls more : ℕ) (bytes : List ℕ) → 1 ≤ to → to ≤ length bytes → ends_of (options_of number (drop to bytes)) ≡ ends_of (options_of before bytes)
    → (r : Result Run Malformed) → RunOf number (drop to bytes) more r → RunOf before bytes calls r
run-whole before number to calls more bytes some there e (Ok (More left k)) run =
    let l = length-drop to bytes in
    let at : to + (length (drop to bytes) - left) ≡ length bytes - left = omega (arith, run.falls.0) in
    record {
      ends = ap (λ (n : ℕ). ends_of (options_of k (drop n bytes))) (sym at) ∙ ap (λ (l : List ℕ). ends_of (options_of k l)) (sym (drop-drop (length (drop to bytes) - left) to bytes)) ∙ run.ends ∙ e;
      falls = (omega (arith, run.falls.0), λ h. omega (arith, run.falls.0));
    }
run-whole before number to calls more bytes some there e (Ok (End left)) run = record { ends = run.ends ∙ e; falls = tt }
run-whole before number to calls more bytes some there e (Err _) run = record { ends = run.ends ∙ e; falls = tt }

module _ (before : ℕ) (bytes : List ℕ) (calls : ℕ) (next : Next) (is : next ≡ next_in before bytes) where
  pub run_ends : next ≡ no_more → RunOf before bytes calls (Ok (End (length bytes)))
  run_ends e = record { ends = sym (ap ends_of (options-end before bytes (sym is ∙ e))); falls = tt }

  pub run-bad : next ≡ no_form → RunOf before bytes calls (Err (record {}))
  run-bad e = record { ends = sym (ap ends_of (options-bad before bytes (sym is ∙ e))); falls = tt }

  module _ (number from to : ℕ) (e : next ≡ an_option number from to) where
    -- the rest is shorter
    pub rest-shorter : (to ≤ length bytes) × (length (take (length bytes - to) (drop to bytes)) < length bytes)
    rest-shorter =
        let b = next-bounds before bytes number from to (sym is ∙ e) in
        (b.there, rw (rest_of bytes to) (omega (arith, b, length-drop to bytes)))

    pub run-goes-on : (more : ℕ) (r : Result Run Malformed) → RunOf number (take (length bytes - to) (drop to bytes)) more r → RunOf before bytes calls r
    run-goes-on more r run =
        let b = next-bounds before bytes number from to (sym is ∙ e) in
        run-whole before number to calls more bytes (omega (arith, b.starts, b.ends)) b.there (ends-after before bytes number from to (sym is ∙ e)) r (rw (rest_of bytes to) at run)

-- ---- the n-th option of a number

found-enough : (f g : ℕ) (bytes : List ℕ) (at before wanted n : ℕ) → length bytes - at < f → length bytes - at < g → found_in f bytes at before wanted n ≡ found_in g bytes at before wanted n
unfolding found_in
found-enough zero g bytes at before wanted n h k = absurd (omega arith)
found-enough (suc f) zero bytes at before wanted n h k = absurd (omega arith)
found-enough (suc f) (suc g) bytes at before wanted n h k = go (next_at bytes at before) refl (λ to number m. found-enough f g bytes to number wanted m)
  where
    go : (next : Next) → next_at bytes at before ≡ next
        → ((to number m : ℕ) → length bytes - to < f → length bytes - to < g → found_in f bytes to number wanted m ≡ found_in g bytes to number wanted m)
        → on_found wanted n (λ to number m. found_in f bytes to number wanted m) next ≡ on_found wanted n (λ to number m. found_in g bytes to number wanted m) next
    go (Ok (Some o)) e more =
        let b = at_bounds bytes at before o.number o.from o.to e in
        let less : length bytes - o.to < f = omega (arith, b.starts, b.ends, b.there) in
        let less' : length bytes - o.to < g = omega (arith, b.starts, b.ends, b.there) in
        (λ i. cond (eqb o.number wanted) (cond (eqb n 0) (Some (between o.from o.to)) (more o.to o.number (n - 1) less less' i)) (more o.to o.number n less less' i))
    go (Ok None) e more = refl
    go (Err _) e more = refl

module _ (bytes : List ℕ) (at before wanted n : ℕ) (next : Next) (is : next ≡ next_at bytes at before) where
  -- where no option stands
  pub found_none : ((number from to : ℕ) → next ≡ an_option number from to → ⊥) → None ≡ found_from bytes at before wanted n
  unfolding found_in
  found_none none = go next refl
    where
      go : (k : Next) → next ≡ k → None ≡ found_from bytes at before wanted n
      go (Ok (Some o)) e = absurd (none o.number o.from o.to e)
      go (Ok None) e = sym (ap (on_found wanted n (λ to number k. found_in (length bytes - at) bytes to number wanted k)) (sym is ∙ e))
      go (Err _) e = sym (ap (on_found wanted n (λ to number k. found_in (length bytes - at) bytes to number wanted k)) (sym is ∙ e))

  module _ (number from to : ℕ) (e : next ≡ an_option number from to) where
    pub found-bounds : BoundedAt bytes at before number from to
    found-bounds = at_bounds bytes at before number from to (sym is ∙ e)

    step : (k : ℕ) → found_in (length bytes - at) bytes to number wanted k ≡ found_from bytes to number wanted k
    step k = let b = found-bounds in found-enough (length bytes - at) (suc (length bytes - to)) bytes to number wanted k (omega (arith, b.starts, b.ends, b.there)) (omega arith)

    found-step : found_from bytes at before wanted n
        ≡ cond (eqb number wanted) (cond (eqb n 0) (Some (between from to)) (found_from bytes to number wanted (n - 1))) (found_from bytes to number wanted n)
    unfolding found_in
    found-step =
        ap (on_found wanted n (λ to number k. found_in (length bytes - at) bytes to number wanted k)) (sym is ∙ e)
        ∙ (λ i. cond (eqb number wanted) (cond (eqb n 0) (Some (between from to)) (step (n - 1) i)) (step n i))

    pub found_here : number ≡ wanted → n ≡ 0 → Some (between from to) ≡ found_from bytes at before wanted n
    found_here p q = sym (found-step ∙ rw (eq-eqb number wanted p, eq-eqb n 0 q) refl)

    pub found-later : number ≡ wanted → (n ≡ 0 → ⊥) → found_from bytes to number wanted (n - 1) ≡ found_from bytes at before wanted n
    found-later p q = sym (found-step ∙ rw (eq-eqb number wanted p, ne_eqb n 0 q) refl)

    pub found-other : (number ≡ wanted → ⊥) → found_from bytes to number wanted n ≡ found_from bytes at before wanted n
    found-other p = sym (found-step ∙ rw (ne_eqb number wanted p) refl)
