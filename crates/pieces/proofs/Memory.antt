-- The laws of `patch` and `part`: patches that meet are one patch, a store is a patch of one byte, and what a patch leaves alone. Assumes nothing.
use mathlib.Core.Path.{◌≡◌, refl, sym, ap, ◌∙◌}
use mathlib.Core.Bool.{Bool, true, false}
use mathlib.Core.List.{List, [], ◌∷◌, ◌++◌, append_assoc, append-nil}
use Prim.Native.Nat.{ℕ, ◌+◌, ◌-◌, ◌*◌, ◌≤◌, ◌<◌}
use native.Mathlib.Nat.{add_assoc, add-zero, zero-add, suc-mul, mul-le-mul_right}
use native.Mathlib.Numerals.{add-one}
use native.Mathlib.Omega.{arith}
use lib.Dec.{ltb}
use lib.ListN.{length, set, take, drop, length-append, length-take, length-drop, take-append-drop, drop_of_length-le}
use lib.Seq.{take-take, take_at, drop_at, drop-drop, take-add, set_split, length-take-le, drop-append-le, take-append-le}
use borrow.Author.Tests.{ltb-true, ltb-false, le-leb}
use Rattle.pieces.specs.Memory.{patch, part, within, piece_of, put_piece}

-- a memory in three parts, the middle one replaced by one as long
pub patch-at : (x y z b : List ℕ) (at : ℕ) → length x ≡ at → length y ≡ length b → patch (x ++ (y ++ z)) at b ≡ x ++ (b ++ z)
unfolding patch
patch-at x y z b at hx hy =
    let e : length (x ++ y) ≡ at + length b = length-append x y ∙ omega arith in
    let d : drop (at + length b) (x ++ (y ++ z)) ≡ z = rw (← append_assoc x y z) (drop_at (x ++ y) z (at + length b) e) in
    rw (d, take_at x (y ++ z) at hx)

pub length-patch : (m : List ℕ) (at : ℕ) (b : List ℕ) → at + length b ≤ length m → length (patch m at b) ≡ length m
unfolding patch
length-patch m at b h = simp (length-append, length-take, length-drop) (omega arith)

pub patch-none : (m : List ℕ) (at : ℕ) → patch m at [] ≡ m
unfolding patch
patch-none m at = rw add-zero (take-append-drop at m)

-- a patch of the whole memory
pub patch-whole : (m b : List ℕ) → length m ≡ length b → patch m 0 b ≡ b
unfolding patch
patch-whole m b h = rw (zero-add, drop_of_length-le m {i = length b} (omega arith)) (append-nil b)

-- a patch, and then one right after it
pub patch-after : (m : List ℕ) (at : ℕ) (b c : List ℕ) → at + (length b + length c) ≤ length m → patch (patch m at b) (at + length b) c ≡ patch m at (b ++ c)
unfolding patch
patch-after m at b c h =
    let r : List ℕ = drop (at + length b) m in
    let n : ℕ = length c in
    let shape : patch m at b ≡ (take at m ++ b) ++ (take n r ++ drop n r) = rw (take-append-drop n r, append_assoc (take at m) b r) in
    ap (λ (l : List ℕ). patch l (at + length b) c) shape
    ∙ patch-at (take at m ++ b) (take n r) (drop n r) c (at + length b) (simp (length-append, length-take) (omega arith)) (simp (length-take, length-drop) (omega arith))
    ∙ simp (append_assoc, length-append, drop-drop, add_assoc)

-- a patch, and then one right before it
pub patch-front : (m : List ℕ) (at : ℕ) (b c : List ℕ) → at + length b ≤ length m → patch (patch m (at + length b) c) at b ≡ patch m at (b ++ c)
unfolding patch
patch-front m at b c h =
    let y : List ℕ = take (length b) (drop at m) in
    let z : List ℕ = c ++ drop (at + length b + length c) m in
    let shape : patch m (at + length b) c ≡ take at m ++ (y ++ z) = rw (take-add at (length b) m, append_assoc (take at m) y z) in
    ap (λ (l : List ℕ). patch l at b) shape
    ∙ patch-at (take at m) y z b at (simp length-take (omega arith)) (simp (length-take, length-drop) (omega arith))
    ∙ simp (append_assoc, length-append, add_assoc)

-- a patch further on is one from the base, with the bytes between as they are
pub patch-lead : (m : List ℕ) (base k : ℕ) (b : List ℕ) → base + k ≤ length m → patch m (base + k) b ≡ patch m base (part m base k ++ b)
unfolding patch part
patch-lead m base k b h =
    let n : length (take k (drop base m)) ≡ k = simp (length-take, length-drop) (omega arith) in
    simp (take-add, append_assoc, length-append, n, add_assoc)

-- a store is a patch of one byte
pub set-patch : (m : List ℕ) (i v : ℕ) → i < length m → set m i v ≡ patch m i (v ∷ [])
unfolding patch
set-patch m i v h = rw (add-one, set_split m i v)

-- ---- a part

pub length_part : (m : List ℕ) (at n : ℕ) → at + n ≤ length m → length (part m at n) ≡ n
unfolding part
length_part m at n h = simp (length-take, length-drop) (omega arith)

-- what is put back where it stood changes nothing
pub patch-self : (m : List ℕ) (at n : ℕ) → at + n ≤ length m → patch m at (part m at n) ≡ m
patch-self m at n h = ap (patch m at) (sym (append-nil (part m at n))) ∙ sym (patch-lead m at n [] h) ∙ patch-none m (at + n)

-- a part of a part
pub take_part : (m : List ℕ) (at n j : ℕ) → j ≤ n → take j (part m at n) ≡ part m at j
unfolding part
take_part m at n j h = take-take j n (drop at m) h

pub drop-part : (m : List ℕ) (at n j : ℕ) → j ≤ n → at + n ≤ length m → drop j (part m at n) ≡ part m (at + j) (n - j)
unfolding part
drop-part m at n j h f =
    let l : List ℕ = drop at m in
    let q : n ≡ j + (n - j) = omega arith in
    let w : length (take j l) ≡ j = simp (length-take, length-drop) (omega arith) in
    ap (drop j) (ap (λ (k : ℕ). take k l) q ∙ take-add j (n - j) l) ∙ drop_at (take j l) (take (n - j) (drop j l)) j w ∙ ap (take (n - j)) (drop-drop j at m)

-- the bytes between two indices
module _ (m : List ℕ) (from to : ℕ) where
  pub within-there : from ≤ to → to ≤ length m → take (to - from) (drop from m) ≡ within m from to
  unfolding within part
  within-there h k = rw (le-leb from to h, le-leb to (length m) k)

-- ---- what a patch holds, and what it leaves

-- what was put in is there
pub part-patch : (m : List ℕ) (at : ℕ) (b : List ℕ) → at ≤ length m → part (patch m at b) at (length b) ≡ b
unfolding patch part
part-patch m at b h = rw (drop_at (take at m) (b ++ drop (at + length b) m) at (length-take-le at m h), take_at b (drop (at + length b) m) (length b) refl)

-- a part before the patch, and one past it, are as they were
pub part-before : (m : List ℕ) (at : ℕ) (b : List ℕ) (from n : ℕ) → from + n ≤ at → at ≤ length m → part (patch m at b) from n ≡ part m from n
unfolding patch part
part-before m at b from n h k =
    let x : List ℕ = take at m in
    let y : List ℕ = b ++ drop (at + length b) m in
    let w : length x ≡ at = length-take-le at m k in
    let u : drop from x ≡ part m from (at - from) = drop-part m 0 at from (omega arith) (omega arith) ∙ rw zero-add in
    let v : n ≤ length (drop from x) = simp length-drop (omega arith) in
    ap (take n) (drop-append-le from x y (omega arith)) ∙ take-append-le n (drop from x) y v ∙ ap (take n) u ∙ take_part m from (at - from) n (omega arith)

pub part-past : (m : List ℕ) (at : ℕ) (b : List ℕ) (from n : ℕ) → at + length b ≤ from → at + length b ≤ length m → part (patch m at b) from n ≡ part m from n
unfolding patch part
part-past m at b from n h k =
    let e : ℕ = at + length b in
    let q : from ≡ e + (from - e) = omega arith in
    let w : length (take at m ++ b) ≡ e = simp (length-append, length-take) (omega arith) in
    let d : drop e (patch m at b) ≡ drop e m = rw (← append_assoc (take at m) b (drop e m)) (drop_at (take at m ++ b) (drop e m) e w) in
    let f : (l : List ℕ) → drop from l ≡ drop (from - e) (drop e l) = λ l. ap (λ (i : ℕ). drop i l) q ∙ sym (drop-drop (from - e) e l) in
    ap (take n) (f (patch m at b) ∙ ap (drop (from - e)) d ∙ sym (f m))

-- what comes back of a part that was lent is a patch
pub patch-lent : (m : List ℕ) (at n : ℕ) (p : List ℕ) → length p ≡ n → take at m ++ (p ++ drop n (drop at m)) ≡ patch m at p
unfolding patch
patch-lent m at n p h = rw (drop-drop, ← h)

-- and so is what comes back of `&mut m[at..at + n]`, where it holds b then
pub patch_back : (m : List ℕ) (at n : ℕ) (p b : List ℕ) → p ≡ b → length b ≡ n → take at m ++ (p ++ drop (at + n - at) (drop at m)) ≡ patch m at b
patch_back m at n p b e h =
    let k : at + n - at ≡ n = omega arith in
    rw (e, k) (patch-lent m at n b h)

-- ---- pieces of u bytes

-- where one piece ends the next begins
pub piece-order : (i j u : ℕ) → i < j → i * u + u ≤ j * u
piece-order i j u h = rw (← (suc-mul i u)) (mul-le-mul_right u h)

module _ (u : ℕ) (m : List ℕ) (i : ℕ) (within : i * u + u ≤ length m) where
  pub length-piece : length (piece_of u i m) ≡ u
  unfolding piece_of
  length-piece = length_part m (i * u) u within

  module _ (p : List ℕ) (full : length p ≡ u) where
    pub length-put : length (put_piece u i p m) ≡ length m
    unfolding put_piece
    length-put = length-patch m (i * u) p (omega arith)

    pub piece-put-same : piece_of u i (put_piece u i p m) ≡ p
    unfolding piece_of put_piece
    piece-put-same = rw (← full) (part-patch m (i * length p) p (rw full (omega arith)))

    pub piece-put-other : (j : ℕ) → (i ≡ j → ⊥) → piece_of u j (put_piece u i p m) ≡ piece_of u j m
    unfolding piece_of put_piece
    piece-put-other j ne = go (ltb i j) refl
      where
        go : (t : Bool) → ltb i j ≡ t → part (patch m (i * u) p) (j * u) u ≡ part m (j * u) u
        go true e = let o : i * u + u ≤ j * u = piece-order i j u (ltb-true i j e) in part-past m (i * u) p (j * u) u (omega arith) (omega arith)
        go false e =
            let l : j ≤ i = ltb-false i j e in
            let o : j * u + u ≤ i * u = piece-order j i u (omega (arith, ne)) in
            part-before m (i * u) p (j * u) u (omega arith) (omega arith)
