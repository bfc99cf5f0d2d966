-- Bytes moved down in two parts, the first part first, are moved as at once. Assumes nothing.
use mathlib.Core.Path.{◌≡◌, ◌∙◌, ap, sym}
use mathlib.Core.List.{List, ◌++◌}
use Prim.Native.Nat.{ℕ, ◌+◌, ◌-◌, ◌≤◌}
use native.Mathlib.Omega.{arith}
use lib.ListN.{length, drop}
use lib.Seq.{take-add, drop-drop}
use Rattle.pieces.specs.Memory.{patch, part}
use Rattle.pieces.proofs.Memory.{length_part, part-past, patch-after}

-- one part, and then the one right behind it
joined : (m : List ℕ) (at h n : ℕ) → h ≤ n → part m at h ++ part m (at + h) (n - h) ≡ part m at n
unfolding part
joined m at h n k =
    let q : h + (n - h) ≡ n = omega arith in
    rw (← drop-drop h at m, ← take-add h (n - h) (drop at m), q)

-- The second part is read after the first is written: where the bytes go up, some of it may be overwritten by then.
pub in_two : (m : List ℕ) (from to h n : ℕ) → to ≤ from → h ≤ n → from + n ≤ length m →
    patch (patch m to (part m from h)) (to + h) (part (patch m to (part m from h)) (from + h) (n - h)) ≡ patch m to (part m from n)
in_two m from to h n down k within =
    let first : List ℕ = part m from h in
    let rest : List ℕ = part m (from + h) (n - h) in
    let long : length first ≡ h = length_part m from h (omega arith) in
    let behind : length rest ≡ n - h = length_part m (from + h) (n - h) (omega arith) in
    let second : part (patch m to first) (from + h) (n - h) ≡ rest = part-past m to first (from + h) (n - h) (omega arith) (omega arith) in
    let after : patch (patch m to first) (to + length first) rest ≡ patch m to (first ++ rest) = patch-after m to first rest (omega arith) in
    rw second (ap (λ (j : ℕ). patch (patch m to first) (to + j) rest) (sym long) ∙ after ∙ ap (patch m to) (joined m from h n k))
