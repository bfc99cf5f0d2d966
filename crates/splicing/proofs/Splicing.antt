-- The laws of the splice: what the code's steps leave, the answer by its cases, and the next block in order. Assumes nothing.
use Rattle.std.specs.Prelude.{Ok, Err}
use mathlib.Core.Path.{◌≡◌, refl, ap, ◌∙◌}
use mathlib.Core.Bool.{Bool, true, false}
use mathlib.Core.List.{List, [], ◌++◌, append_assoc, append-nil}
use Prim.Native.Nat.{ℕ, ◌+◌, ◌-◌, ◌≤◌, ◌<◌}
use native.Mathlib.Nat.{zero-add}
use native.Mathlib.Omega.{arith}
use lib.Dec.{ltb}
use lib.ListN.{length, take, drop, replicate, length-append, length-take, length-drop, length-replicate, drop_of_length-le}
use lib.Seq.{take_all, take-take, take-add, drop_at, length-take-le}
use borrow.Author.Tests.{lt-ltb, le-ltb, ltb-true, ltb-false}
use Rattle.refusal.specs.declared.Refusal.TheVariants.{Jump, NoRoom}
use Rattle.pieces.specs.Memory.{patch, part}
use Rattle.splicing.specs.Splice.{spliced, spliced_length, splice_of, piece_after, room_in}
use Rattle.pieces.proofs.Memory.{patch-after, patch-front}
use Rattle.pieces.proofs.Tests.{by_cases}

-- a patch further on is one from the start, with the bytes before it as they are
patch-start : (m : List ℕ) (k : ℕ) (b : List ℕ) → k ≤ length m → patch m k b ≡ patch m 0 (take k m ++ b)
unfolding patch
patch-start m k b h =
    let n : length (take k m) ≡ k = length-take-le k m h in
    simp (append_assoc, length-append, n, zero-add)

-- ---- what the code does, by where the block lies in the l bytes that are assembled

module _ (m : List ℕ) (l a s : ℕ) (p : List ℕ) (f : l ≤ length m) where
  long : length (take l m) ≡ l
  long = length-take-le l m f

  beyond : l ≤ a + s → drop (a + s) (take l m) ≡ []
  beyond h = drop_of_length-le (take l m) {i = a + s} (omega (arith, long))

  tail : a + s ≤ l → drop (a + s) (take l m) ≡ part m (a + s) (l - (a + s))
  unfolding part
  tail h =
      let cut : l ≡ a + s + (l - (a + s)) = omega arith in
      let n : length (take (a + s) m) ≡ a + s = length-take-le (a + s) m (omega arith) in
      ap (drop (a + s)) (ap (λ (k : ℕ). take k m) cut ∙ take-add (a + s) (l - (a + s)) m) ∙ drop_at (take (a + s) m) (take (l - (a + s)) (drop (a + s) m)) (a + s) n

  before : a ≤ l → take a (take l m) ++ replicate (a - length (take l m)) 0 ≡ take a m
  before h =
      let z : a - length (take l m) ≡ 0 = omega (arith, long) in
      rw (z, append-nil (take a (take l m)), take-take a l m h)

  -- inside: the tail is moved, and the payload put before it
  splice-inside : a + s < l → l - s + length p ≤ length m
      → patch (patch m (a + length p) (part m (a + s) (l - (a + s)))) a p ≡ piece_after m l a s p
  unfolding piece_after spliced
  splice-inside h g =
      let t : List ℕ = part m (a + s) (l - (a + s)) in
      rw (before (omega arith), tail (omega arith), append_assoc (take a m) p t)
      (patch-front m a p t (omega arith) ∙ patch-start m a (p ++ t) (omega arith))

  -- past the end: zeros, and then the payload
  splice-past : l < a → a + length p ≤ length m → patch (patch m l (replicate (a - l) 0)) a p ≡ piece_after m l a s p
  unfolding piece_after spliced
  splice-past h g =
      let z : List ℕ = replicate (a - l) 0 in
      let n : length z ≡ a - l = length-replicate (a - l) 0 in
      let at : a ≡ l + length z = omega arith in
      rw (beyond (omega arith), take_all a (take l m) (omega (arith, long)), long, append-nil (take l m ++ z ++ p), append_assoc (take l m) z p)
      (ap (λ (i : ℕ). patch (patch m l z) i p) at ∙ patch-after m l z p (omega arith) ∙ patch-start m l (z ++ p) f)

  -- at the end, or over it: the payload alone
  splice-over : a ≤ l → l ≤ a + s → patch m a p ≡ piece_after m l a s p
  unfolding piece_after spliced
  splice-over h k = rw (before h, beyond k, append-nil (take a m ++ p)) (patch-start m a p (omega arith))

  -- with room made for it, the payload is put in its place
  pub splice-put : spliced_length l a s (length p) ≤ length m → patch (room_in m l a (a + s) (a + length p)) a p ≡ piece_after m l a s p
  splice-put g =
      by_cases (ltb (a + s) l)
      (λ h. let inside = ltb-true (a + s) l h in rw h (splice-inside inside (omega arith)))
      (λ h. let over = ltb-false (a + s) l h in
      by_cases (ltb l a)
      (λ k. let past = ltb-true l a k in rw (h, k) (splice-past past (omega arith)))
      (λ k. rw (h, k) (splice-over (ltb-false l a k) over)))

-- ---- the answer, by its cases

module _ (u l a s p : ℕ) where
  pub too_far : 16384 < a + s - l → splice_of u l a s p ≡ Err Jump
  unfolding splice_of
  too_far h = rw (lt-ltb 16384 (a + s - l) h)

  pub too_small : a + s - l ≤ 16384 → u < spliced_length l a s p → splice_of u l a s p ≡ Err NoRoom
  unfolding splice_of
  too_small h k = rw (le-ltb 16384 (a + s - l) h, lt-ltb u (spliced_length l a s p) k)

  pub taken : a + s - l ≤ 16384 → spliced_length l a s p ≤ u → splice_of u l a s p ≡ Ok (spliced_length l a s p)
  unfolding splice_of
  taken h k = rw (le-ltb 16384 (a + s - l) h, le-ltb u (spliced_length l a s p) k)

  -- a splice that is taken has the length that the document says, fits, and does not jump too far
  pub taken_is : (n : ℕ) → splice_of u l a s p ≡ Ok n → (n ≡ spliced_length l a s p) × (n ≤ u) × (a + s - l ≤ 16384)
  taken_is n e = go (ltb 16384 (a + s - l)) (ltb u (spliced_length l a s p)) refl refl
    where
      go : (f g : Bool) → ltb 16384 (a + s - l) ≡ f → ltb u (spliced_length l a s p) ≡ g
          → (n ≡ spliced_length l a s p) × (n ≤ u) × (a + s - l ≤ 16384)
      go true g h k = let no : ◌≡◌ {A = ℕ} 0 1 = cc (too_far (ltb-true 16384 (a + s - l) h)) in absurd (omega arith)
      go false true h k = let no : ◌≡◌ {A = ℕ} 0 1 = cc (too_small (ltb-false 16384 (a + s - l) h) (ltb-true u (spliced_length l a s p) k)) in absurd (omega arith)
      go false false h k =
          let near = ltb-false 16384 (a + s - l) h in
          let fits = ltb-false u (spliced_length l a s p) k in
          let q : n ≡ spliced_length l a s p = cc (taken near fits) in
          (q, omega arith, near)

-- ---- the new body

pub length-spliced : (body : List ℕ) (a s : ℕ) (p : List ℕ) → length (spliced body a s p) ≡ spliced_length (length body) a s (length p)
unfolding spliced
length-spliced body a s p = simp (length-append, length-take, length-drop, length-replicate) (omega arith)

-- the next block in order is appended
pub spliced-next : (body : List ℕ) (s : ℕ) (p : List ℕ) → spliced body (length body) s p ≡ body ++ p
unfolding spliced
spliced-next body s p =
    let z : length body - length body ≡ 0 = omega arith in
    rw (z, take_all (length body) body (omega arith), append-nil body, drop_of_length-le body {i = length body + s} (omega arith), append-nil (body ++ p))
