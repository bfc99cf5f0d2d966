-- What one turn of gathering or scattering takes off the front of what is left. Assumes nothing.
use Prim.Native.Nat.{ℕ, zero, suc, ◌+◌, ◌-◌, ◌*◌, ◌≤◌, ◌<◌}
use mathlib.Core.Path.{◌≡◌, ap, ◌∙◌}
use mathlib.Core.List.{List, [], ◌∷◌, ◌++◌}
use native.Mathlib.Numerals.{add-one}
use native.Mathlib.Omega.{arith}
use lib.ListN.{length, get_or, take, drop}
use lib.Seq.{drop-cons, drop-drop}
use Rattle.pieces.specs.Memory.{part, patch, piece_of}
use Rattle.pieces.proofs.Memory.{take_part, piece-order}
use Rattle.gathering.specs.Gather.{sum, Short, gathered, scattered}
use Rattle.gathering.proofs.Laws.{Room, length-gathered}

module _ (u : ℕ) where
  pub short-at : (l : List ℕ) (i : ℕ) → Short u l → i < length l → get_or l i 0 ≤ u
  short-at [] i s h = absurd (omega arith)
  short-at (n ∷ l) zero s h = s.0
  short-at (n ∷ l) (suc i) s h = short-at l i s.1 (omega arith)

  pub short-room : (pieces i : ℕ) (l : List ℕ) → i + length l ≤ pieces → Short u l → Room u (pieces * u) i l
  short-room pieces i [] h s = tt
  short-room pieces i (n ∷ l) h s = (s.0, piece-order i pieces u (omega arith), short-room pieces (suc i) l (omega arith) s.1)

  pub all_gathered : (m l : List ℕ) → length m ≡ 16 * u → length l ≡ 16 → Short u l → length (gathered u m 0 l) ≡ sum l
  all_gathered m l e n s = length-gathered u m 0 l (rw e (short-room 16 0 l (omega arith) s))

  -- what stands at the start of piece i stands within the memory
  pub piece_end : (l : List ℕ) (i : ℕ) → Short u l → length l ≡ 16 → i < 16 → i * u + get_or l i 0 ≤ 16 * u
  piece_end l i s n h = omega (arith, short-at l i s (omega arith), piece-order i 16 u h)

  -- what is left to gather: the bytes that the loop lends, and what is left then
  abbrev pub lent : List ℕ → List ℕ → ℕ → List ℕ
  lent m l i = take (i * u + get_or l i 0 - i * u) (drop (i * u) m)

  pub gather_step : (m l : List ℕ) (i : ℕ) → i < length l → Short u l → gathered u m i (drop i l) ≡ lent m l i ++ gathered u m (i + 1) (drop (i + 1) l)
  unfolding piece_of part
  gather_step m l i h s =
      let n : ℕ = get_or l i 0 in
      let back : n ≡ i * u + n - i * u = omega arith in
      let first : take n (take u (drop (i * u) m)) ≡ lent m l i =
      take_part m (i * u) u n (short-at l i s h) ∙ ap (λ (k : ℕ). take k (drop (i * u) m)) back in
      rw (drop-cons l i 0 h, add-one i) (ap (λ (b : List ℕ). b ++ gathered u m (suc i) (drop (suc i) l)) first)

  -- what is left to scatter, once the bytes that the loop lends stand in piece i
  pub scatter_step : (m l bytes : List ℕ) (i at : ℕ) → i < length l
      → scattered u m i (drop i l) (drop at bytes)
      ≡ scattered u (patch m (i * u) (take (at + get_or l i 0 - at) (drop at bytes))) (i + 1) (drop (i + 1) l) (drop (at + get_or l i 0) bytes)
  scatter_step m l bytes i at h =
      let n : ℕ = get_or l i 0 in
      let back : at + n - at ≡ n = omega arith in
      rw (drop-cons l i 0 h, add-one i, back, ← (drop-drop n at bytes))

pub sum_step : (l : List ℕ) (i : ℕ) → i < length l → sum (drop i l) ≡ get_or l i 0 + sum (drop (i + 1) l)
sum_step l i h = rw (drop-cons l i 0 h, add-one i)
