-- A loop that writes a memory byte by byte, upwards: what holds after each turn. Assumes nothing.
use mathlib.Core.Path.{◌≡◌, refl, sym, ap, ◌∙◌}
use mathlib.Core.List.{List, [], ◌∷◌}
use Prim.Native.Nat.{ℕ, ◌+◌, ◌≤◌, ◌<◌}
use native.Mathlib.Numerals.{add-one}
use native.Mathlib.Omega.{arith}
use lib.ListN.{length, get_or, set, take, length-take, length-set}
use lib.Seq.{take-suc, take_all}
use Rattle.pieces.specs.Memory.{patch}
use Rattle.pieces.proofs.Memory.{length-patch, patch-none, patch-after, set-patch}

-- the first i bytes of src stand at at, and the next one is stored
turn_up : (m mem src : List ℕ) (at i v : ℕ) → mem ≡ patch m at (take i src) → i < length src → at + length src ≤ length m → v ≡ get_or src i 0
    → set mem (at + i) v ≡ patch m at (take (i + 1) src)
turn_up m mem src at i v e h k w =
    let n : length (take i src) ≡ i = simp length-take (omega arith) in
    let f : at + length (take i src) ≤ length m = omega arith in
    ap (λ (l : List ℕ). set l (at + i) v) e
    ∙ set-patch (patch m at (take i src)) (at + i) v (rw (length-patch m at (take i src)) (omega arith))
    ∙ ap (λ (j : ℕ). patch (patch m at (take i src)) (at + j) (v ∷ [])) (sym n)
    ∙ patch-after m at (take i src) (v ∷ []) (omega arith)
    ∙ ap (patch m at) (rw (w, add-one, take-suc src i 0))

-- a loop that copies src, of n bytes, to index at of m: what holds after i turns
abbrev pub Up : List ℕ → ℕ → List ℕ → ℕ → List ℕ → ℕ → Type 0
Up m at src n mem i = (i ≤ n) × (length mem ≡ length m) × (mem ≡ patch m at (take i src))

pub up_start : (m : List ℕ) (at : ℕ) (src : List ℕ) (n : ℕ) → Up m at src n m 0
up_start m at src n = (omega arith, refl, sym (patch-none m at))

pub up_turn : (m : List ℕ) (at : ℕ) (src : List ℕ) (n : ℕ) (mem : List ℕ) (i v : ℕ)
    → length src ≡ n → at + n ≤ length m → Up m at src n mem i → i < n → v ≡ get_or src i 0 → Up m at src n (set mem (at + i) v) (i + 1)
up_turn m at src n mem i v e f u h w =
    (omega arith, length-set mem (at + i) v ∙ u.1, turn_up m mem src at i v u.2 (omega arith) (omega arith) w)

pub up_done : (m : List ℕ) (at : ℕ) (src : List ℕ) (n : ℕ) (mem : List ℕ) (i : ℕ) → length src ≡ n → Up m at src n mem i → n ≤ i → mem ≡ patch m at src
up_done m at src n mem i e u h = u.2 ∙ ap (patch m at) (take_all i src (omega arith))
