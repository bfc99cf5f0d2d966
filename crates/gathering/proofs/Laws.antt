-- Laws of gathering and scattering: what is scattered is gathered again, and nothing else changes. Assumes nothing.
use Prim.Native.Nat.{ℕ, zero, suc, ◌+◌, ◌*◌, ◌≤◌, ◌<◌}
use mathlib.Core.Path.{◌≡◌, refl, sym, ap, ◌∙◌}
use mathlib.Core.Logic.{◌≢◌}
use mathlib.Core.List.{List, [], ◌∷◌}
use native.Mathlib.Nat.{zero-add, add-zero, suc-add, suc-mul}
use native.Mathlib.Omega.{arith}
use lib.Dec.{ltb}
use lib.ListN.{length, take, drop, get_or, length-append, length-take, length-drop}
use lib.Seq.{take_at, drop_at, take-add, take-take, take-length, take-nil, length-take-le}
use borrow.Author.Tests.{ltb-true, ltb-false}
use Rattle.pieces.specs.Memory.{patch, piece_of}
use Rattle.pieces.proofs.Memory.{piece-order, length-piece, length-patch, part-patch, part-before, part-past, take_part, drop-part}
use Rattle.pieces.proofs.Tests.{by_cases}
use Rattle.gathering.specs.Gather.{sum, gathered, scattered}

-- these pieces, from piece i on, stand in a memory of so many bytes, and what each is to hold fits it
abbrev pub Room : ℕ → ℕ → ℕ → List ℕ → Type 0
Room u size i [] = Unit {0}
Room u size i (n ∷ rest) = (n ≤ u) × (i * u + u ≤ size) × Room u size (suc i) rest

pub room : (u pieces i : ℕ) (l : List ℕ) → i + length l ≤ pieces → ((j : ℕ) → get_or l j 0 ≤ u) → Room u (pieces * u) i l
room u pieces i [] h each = tt
room u pieces i (n ∷ rest) h each = (each 0, piece-order i pieces u (omega arith), room u pieces (suc i) rest (omega arith) (λ j. each (suc j)))

-- all together they hold no more than their pieces
pub sum-most : (u : ℕ) (l : List ℕ) → ((j : ℕ) → get_or l j 0 ≤ u) → sum l ≤ length l * u
sum-most u [] each = omega arith
sum-most u (n ∷ l) each = rw (suc-mul (length l) u) (omega (arith, each 0, sum-most u l (λ j. each (suc j))))

-- bytes at the start of a piece
module _ (u : ℕ) (m : List ℕ) (i : ℕ) (stands : i * u + u ≤ length m) (b : List ℕ) (fits : length b ≤ u) where
  start-length : length (patch m (i * u) b) ≡ length m
  start-length = length-patch m (i * u) b (omega arith)

  start-own : take (length b) (piece_of u i (patch m (i * u) b)) ≡ b
  unfolding piece_of
  start-own = take_part (patch m (i * u) b) (i * u) u (length b) fits ∙ part-patch m (i * u) b (omega arith)

  start-rest : (n : ℕ) → length b ≤ n → n ≤ u → drop n (piece_of u i (patch m (i * u) b)) ≡ drop n (piece_of u i m)
  unfolding piece_of
  start-rest n h k =
      drop-part (patch m (i * u) b) (i * u) u n k (omega (arith, start-length)) ∙ part-past m (i * u) b _ _ (omega arith) (omega arith)
      ∙ sym (drop-part m (i * u) u n k stands)

  start-other : (j : ℕ) → j ≢ i → piece_of u j (patch m (i * u) b) ≡ piece_of u j m
  unfolding piece_of
  start-other j ne =
      by_cases (ltb i j)
      (λ y. let o : i * u + u ≤ j * u = piece-order i j u (ltb-true i j y) in part-past m (i * u) b (j * u) u (omega arith) (omega arith))
      (λ n.
      let l : j ≤ i = ltb-false i j n in
      let o : j * u + u ≤ i * u = piece-order j i u (omega (arith, ne)) in
      part-before m (i * u) b (j * u) u (omega arith) (omega arith))

drop-take : (n k : ℕ) (b : List ℕ) → drop n (take (n + k) b) ≡ take k (drop n b)
drop-take zero k b = rw zero-add
drop-take (suc n) k [] = rw suc-add (sym (take-nil k))
drop-take (suc n) k (x ∷ b) = rw suc-add (drop-take n k b)

module _ (u : ℕ) where
  pub length-gathered : (m : List ℕ) (i : ℕ) (l : List ℕ) → Room u (length m) i l → length (gathered u m i l) ≡ sum l
  length-gathered m i [] r = refl
  length-gathered m i (n ∷ l) r =
      length-append (take n (piece_of u i m)) (gathered u m (suc i) l)
      ∙ omega (arith, length-take-le n (piece_of u i m) (omega (arith, length-piece u m i r.1)), length-gathered m (suc i) l r.2)

  -- ---- one piece after another

  module _ (m : List ℕ) (i n : ℕ) (l b : List ℕ) (r : Room u (length m) i (n ∷ l)) where
    abbrev next : List ℕ
    next = patch m (i * u) (take n b)

    few : length (take n b) ≤ n
    few = simp length-take (omega arith)

    next-length : length next ≡ length m
    next-length = start-length u m i r.1 (take n b) (omega (arith, few))

    next-room : Room u (length next) (suc i) l
    next-room = rw next-length r.2

    next-other : (j : ℕ) → j ≢ i → piece_of u j next ≡ piece_of u j m
    next-other = start-other u m i r.1 (take n b) (omega (arith, few))

    next-own : n ≤ length b → take n (piece_of u i next) ≡ take n b
    next-own h = rw (length-take-le n b h) at (start-own u m i r.1 (take n b) (omega (arith, few)))

    next-rest : drop n (piece_of u i next) ≡ drop n (piece_of u i m)
    next-rest = start-rest u m i r.1 (take n b) (omega (arith, few)) n few r.0

  -- the memory's length stays
  pub length-scattered : (m : List ℕ) (i : ℕ) (l b : List ℕ) → Room u (length m) i l → length (scattered u m i l b) ≡ length m
  length-scattered m i [] b r = refl
  length-scattered m i (n ∷ l) b r = length-scattered (next m i n l b r) (suc i) l (drop n b) (next-room m i n l b r) ∙ next-length m i n l b r

  -- pieces before these are as they were
  pub scattered-before : (m : List ℕ) (i : ℕ) (l b : List ℕ) → Room u (length m) i l → (j : ℕ) → j < i → piece_of u j (scattered u m i l b) ≡ piece_of u j m
  scattered-before m i [] b r j h = refl
  scattered-before m i (n ∷ l) b r j h =
      scattered-before (next m i n l b r) (suc i) l (drop n b) (next-room m i n l b r) j (omega arith) ∙ next-other m i n l b r j (λ e. omega arith)

  -- in each piece, all behind the bytes put there is as it was; and so are pieces with none
  pub scattered-rest : (m : List ℕ) (i : ℕ) (l b : List ℕ) → Room u (length m) i l → (j : ℕ)
      → drop (get_or l j 0) (piece_of u (i + j) (scattered u m i l b)) ≡ drop (get_or l j 0) (piece_of u (i + j) m)
  scattered-rest m i [] b r j = refl
  scattered-rest m i (n ∷ l) b r zero =
      rw (add-zero i, scattered-before (next m i n l b r) (suc i) l (drop n b) (next-room m i n l b r) i (omega arith)) (next-rest m i n l b r)
  scattered-rest m i (n ∷ l) b r (suc j) =
      let e : i + suc j ≡ suc i + j = omega arith in
      rw e
      (scattered-rest (next m i n l b r) (suc i) l (drop n b) (next-room m i n l b r) j
      ∙ ap (drop (get_or l j 0)) (next-other m i n l b r (suc i + j) (λ z. omega arith)))

  -- WHAT IS SCATTERED IS GATHERED AGAIN
  pub gather-scattered : (m : List ℕ) (i : ℕ) (l b : List ℕ) → Room u (length m) i l → sum l ≤ length b → gathered u (scattered u m i l b) i l ≡ take (sum l) b
  gather-scattered m i [] b r h = refl
  gather-scattered m i (n ∷ l) b r h =
      let here = scattered-before (next m i n l b r) (suc i) l (drop n b) (next-room m i n l b r) i (omega arith) in
      rw (here, next-own m i n l b r (omega arith), gather-scattered (next m i n l b r) (suc i) l (drop n b) (next-room m i n l b r) (simp length-drop (omega arith)))
      (sym (take-add n (sum l) b))

  -- the same bytes gathered of two memories are the same bytes in each piece
  pub gathered-each : (m x : List ℕ) (i : ℕ) (l : List ℕ) → Room u (length m) i l → Room u (length x) i l → gathered u m i l ≡ gathered u x i l → (j : ℕ)
      → take (get_or l j 0) (piece_of u (i + j) m) ≡ take (get_or l j 0) (piece_of u (i + j) x)
  gathered-each m x i [] r s e j = refl
  gathered-each m x i (n ∷ l) r s e j =
      let a : length (take n (piece_of u i m)) ≡ n = length-take-le n (piece_of u i m) (omega (arith, length-piece u m i r.1, r.0)) in
      let b : length (take n (piece_of u i x)) ≡ n = length-take-le n (piece_of u i x) (omega (arith, length-piece u x i s.1, s.0)) in
      go j
      (sym (take_at (take n (piece_of u i m)) (gathered u m (suc i) l) n a) ∙ ap (take n) e ∙ take_at (take n (piece_of u i x)) (gathered u x (suc i) l) n b)
      (gathered-each m x (suc i) l r.2 s.2
      (sym (drop_at (take n (piece_of u i m)) (gathered u m (suc i) l) n a) ∙ ap (drop n) e ∙ drop_at (take n (piece_of u i x)) (gathered u x (suc i) l) n b))
    where
      go : (j : ℕ) → take n (piece_of u i m) ≡ take n (piece_of u i x)
          → ((j : ℕ) → take (get_or l j 0) (piece_of u (suc i + j) m) ≡ take (get_or l j 0) (piece_of u (suc i + j) x))
          → take (get_or (n ∷ l) j 0) (piece_of u (i + j) m) ≡ take (get_or (n ∷ l) j 0) (piece_of u (i + j) x)
      go zero first rest = rw (add-zero i) first
      go (suc j) first rest = let e : i + suc j ≡ suc i + j = omega arith in rw e (rest j)

  -- bytes of one memory, scattered to another, stand there as they stood
  pub scattered-each : (m x : List ℕ) (i : ℕ) (l : List ℕ) → Room u (length m) i l → Room u (length x) i l → (j : ℕ)
      → take (get_or l j 0) (piece_of u (i + j) (scattered u x i l (gathered u m i l))) ≡ take (get_or l j 0) (piece_of u (i + j) m)
  scattered-each m x i l r s =
      let b = gathered u m i l in
      let long = length-gathered m i l r in
      gathered-each (scattered u x i l b) m i l (rw (length-scattered x i l b s) s) r
      (gather-scattered x i l b s (omega arith) ∙ rw (← long) (take-length b))

  -- bytes behind the last are not looked at
  pub scattered-take : (m : List ℕ) (i : ℕ) (l b : List ℕ) → scattered u m i l (take (sum l) b) ≡ scattered u m i l b
  scattered-take m i [] b = refl
  scattered-take m i (n ∷ l) b =
      rw (take-take n (n + sum l) b (omega arith), drop-take n (sum l) b) (scattered-take (patch m (i * u) (take n b)) (suc i) l (drop n b))
