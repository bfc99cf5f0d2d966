-- Numbers in bytes: how long they are, what they read back as, and how a list of bytes is read part by part. Assumes nothing.
use Prim.Native.Nat.{ℕ, zero, suc, ◌+◌, ◌-◌, ◌/◌, ◌%◌, ◌^◌, ◌≤◌, ◌<◌}
use mathlib.Core.Path.{◌≡◌, refl, sym, ap, ◌∙◌}
use mathlib.Core.List.{List, [], ◌∷◌, ◌++◌}
use native.Mathlib.Nat.{pow-suc, pow-le-pow_right, div-add-mod', div-lt_iff_lt-mul}
use native.Mathlib.Omega.{arith}
use lib.ListN.{length, set, take, drop, length-append}
use lib.Seq.{take_at, drop_at, drop-drop}
use Rattle.pieces.specs.Memory.{part, patch, Put}
use Rattle.pieces.proofs.Memory.{patch-none, patch-front, set-patch}
use Rattle.block_option.specs.Uint.{uint}
use Rattle.block_option.proofs.Laws.{uint-snoc, Upto}
use Rattle.big_endian.specs.Numbers.{in_bytes, number_at}

pub length-bytes : (k n : ℕ) → length (in_bytes k n) ≡ k
unfolding in_bytes
length-bytes zero n = refl
length-bytes (suc k) n = length-append (in_bytes k (n / 256)) (n % 256 ∷ []) ∙ omega (arith, length-bytes k (n / 256))

-- a number that fits its bytes reads back
pub uint-bytes : (k n : ℕ) → n < 256 ^ k → uint (in_bytes k n) ≡ n
unfolding in_bytes uint
uint-bytes zero n h = omega arith
uint-bytes (suc k) n h =
    let less : n / 256 < 256 ^ k = (div-lt_iff_lt-mul {k = 256} {x = n} {y = 256 ^ k} (omega arith)).1 (rw (pow-suc 256 k) at h) in
    uint-snoc (in_bytes k (n / 256)) (n % 256) ∙ rw (uint-bytes k (n / 256) less) (div-add-mod' n 256)

-- ---- reading on from where the list stands

pub part-here : (l a rest : List ℕ) (at n : ℕ) → drop at l ≡ a ++ rest → length a ≡ n → part l at n ≡ a
unfolding part
part-here l a rest at n e h = ap (take n) e ∙ take_at a rest n h

pub drop-on : (l a rest : List ℕ) (at n : ℕ) → drop at l ≡ a ++ rest → length a ≡ n → drop (at + n) l ≡ rest
drop-on l a rest at n e h = sym (drop-drop n at l) ∙ ap (drop n) e ∙ drop_at a rest n h

pub number-here : (l rest : List ℕ) (at k n : ℕ) → drop at l ≡ in_bytes k n ++ rest → n < 256 ^ k → number_at l at k ≡ n
unfolding number_at
number-here l rest at k n e h = ap uint (part-here l (in_bytes k n) rest at k e (length-bytes k n)) ∙ uint-bytes k n h

-- ---- the loops

-- the last of the i bytes that are left is stored
pub put_turn : (m : List ℕ) (at i n : ℕ) → 0 < i → at + i ≤ length m → patch (set m (at + (i - 1)) (n % 256)) at (in_bytes (i - 1) (n / 256)) ≡ patch m at (in_bytes i n)
unfolding in_bytes
put_turn m at zero n h k = absurd (omega arith)
put_turn m at (suc j) n h k =
    let b : List ℕ = in_bytes j (n / 256) in
    let long : length b ≡ j = length-bytes j (n / 256) in
    let last : suc j - 1 ≡ j = omega arith in
    rw last
    (ap (λ (l : List ℕ). patch l at b) (set-patch m (at + j) (n % 256) (omega arith) ∙ ap (λ (k : ℕ). patch m (at + k) (n % 256 ∷ [])) (sym long))
    ∙ patch-front m at b (n % 256 ∷ []) (omega arith))

-- and none is left
pub put_done : (m : List ℕ) (at k n : ℕ) (out : List ℕ) (i left : ℕ)
    → at + k ≤ length m → patch out at (in_bytes i left) ≡ patch m at (in_bytes k n) → i ≤ 0 → Put m at (in_bytes k n) out (at + k)
unfolding in_bytes
put_done m at k n out zero left h e z =
    let long : length (in_bytes k n) ≡ k = length-bytes k n in
    record { room = omega arith; is = sym (patch-none out at) ∙ e; to = omega arith }
put_done m at k n out (suc i) left h e z = absurd (omega arith)

-- what is read of eight bytes at most leaves room for another
pub upto-room : (l : List ℕ) (v i : ℕ) → Upto l v i → i < 8 → v < 2 ^ 56
upto-room l v i u h =
    let few : i ≤ 7 = omega arith in
    let p : 256 ^ i ≤ 256 ^ 7 = pow-le-pow_right (omega arith) few in
    omega (arith, u.below)
