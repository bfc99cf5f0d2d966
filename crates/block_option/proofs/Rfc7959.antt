-- Document 01's block value against RFC 7959's: what is read and written means what the RFC says. Proved once, over the width of an option. Assumes nothing.
use Rattle.std.specs.Prelude.{Some}
use mathlib.Core.Path.{◌≡◌, refl, sym, ◌∙◌}
use mathlib.Core.Bool.{Bool, true, false, cond}
use mathlib.Core.List.{List, [], ◌∷◌, ◌++◌}
use Prim.Native.Nat.{ℕ, zero, suc, ◌+◌, ◌-◌, ◌*◌, ◌/◌, ◌%◌, ◌^◌, ◌≤◌, ◌<◌}
use native.Mathlib.Nat.{pow-suc, pow-le-pow_right, mod-eq_of_lt}
use native.Mathlib.Omega.{arith}
use lib.Dec.{eqb}
use lib.ListN.{length, take, length-append}
use borrow.Author.Tests.{eqb-true, eqb-false}
use Rattle.config.specs.Mode.{byte_limit, nums}
use Rattle.config.proofs.Mode.{bytes_most, nums-least, nums-bytes}
use Rattle.block_value.proofs.Laws.{size_is}
use Rattle.block_value.specs.declared.BlockValue.{BlockValue}
use Rattle.block_option.specs.Uint.{uint, Bytes, shortest}
use Rattle.block_option.specs.Option.{unpacked, read_of, packed, written, in_three}
use Rattle.block_option.specs.Rfc7959.{Holds, HoldsBlock, Fewest, AsTheRfc, BothModes}
use Rattle.block_option.proofs.Laws.{uint-snoc, uint-below, read-few, read-long, read-num}

-- ---- the shortest form, of at most `most` bytes

-- by whether the number is 0
on-zero : (P : List ℕ → Type 0) (most v : ℕ) → (v ≡ 0 → P []) → ((v ≡ 0 → ⊥) → P (shortest most (v / 256) ++ (v % 256 ∷ []))) → P (shortest (suc most) v)
unfolding shortest
on-zero P most v none some = go (eqb v 0) refl
  where
    go : (z : Bool) → eqb v 0 ≡ z → P (cond z [] (shortest most (v / 256) ++ (v % 256 ∷ [])))
    go true e = none (eqb-true v 0 e)
    go false e = some (eqb-false v 0 e)

spells : (most v : ℕ) → v < 256 ^ most → uint (shortest most v) ≡ v
unfolding uint shortest
spells zero v h = omega arith
spells (suc most) v h =
    on-zero (λ l. uint l ≡ v) most v (λ z. sym z)
    (λ _.
    let power : 256 ^ suc most ≡ 256 ^ most * 256 = pow-suc 256 most in
    let rest : uint (shortest most (v / 256)) ≡ v / 256 = spells most (v / 256) (omega arith) in
    uint-snoc (shortest most (v / 256)) (v % 256) ∙ rw rest (omega arith))

bytes-snoc : (l : List ℕ) (b : ℕ) → Bytes l → b < 256 → Bytes (l ++ (b ∷ []))
bytes-snoc [] b h k = (k, tt)
bytes-snoc (a ∷ l) b h k = (h.0, bytes-snoc l b h.1 k)

bytes : (most v : ℕ) → Bytes (shortest most v)
unfolding shortest
bytes zero v = tt
bytes (suc most) v = on-zero Bytes most v (λ _. tt) (λ _. bytes-snoc (shortest most (v / 256)) (v % 256) (bytes most (v / 256)) (omega arith))

within : (most v : ℕ) → length (shortest most v) ≤ most
unfolding shortest
within zero v = omega arith
within (suc most) v =
    on-zero (λ l. length l ≤ suc most) most v (λ _. omega arith)
    (λ _. rw (length-append (shortest most (v / 256)) (v % 256 ∷ [])) (omega (arith, within most (v / 256))))

-- a number below 256 ^ n takes at most n bytes
takes : (most n v : ℕ) → v < 256 ^ n → length (shortest most v) ≤ n
unfolding shortest
takes zero n v h = omega arith
takes (suc most) zero v h = on-zero (λ l. length l ≤ 0) most v (λ _. omega arith) (λ some. absurd (some (omega arith)))
takes (suc most) (suc n) v h =
    on-zero (λ l. length l ≤ suc n) most v (λ _. omega arith)
    (λ _.
    let power : 256 ^ suc n ≡ 256 ^ n * 256 = pow-suc 256 n in
    let rest = takes most n (v / 256) (omega arith) in
    rw (length-append (shortest most (v / 256)) (v % 256 ∷ [])) (omega arith))

fewest : (most v : ℕ) → v < 256 ^ most → Fewest (shortest most v)
unfolding Fewest
fewest most v h other b e = takes most (length other) v (rw (e ∙ spells most v h) at (uint-below other b))

-- ---- read

-- every option of at most 3 bytes holds a value, which is the one that its number unpacks to
unpacked-holds : (option : List ℕ) → Bytes option → length option ≤ 3 → HoldsBlock option (unpacked (uint option))
unpacked-holds option b h = record { bytes = b; few = h; scalar = go (eqb (v / 8 % 2) 1) refl; three-bits = omega arith }
  where
    v : ℕ
    v = uint option

    go : (m : Bool) → eqb (v / 8 % 2) 1 ≡ m → v ≡ v / 16 * 16 + cond m 8 0 + v % 8
    go true e = omega (arith, eqb-true (v / 8 % 2) 1 e)
    go false e = let z = eqb-false (v / 8 % 2) 1 e in omega arith

-- The RFC's account leaves no choice: an option holds one NUM, one M and one SZX.
pub holds-one : (option : List ℕ) (n k : ℕ) (p q : Bool) (s t : ℕ) → Holds option n p s → Holds option k q t → (n ≡ k) × (p ≡ q) × (s ≡ t)
holds-one option n k true true s t a b = (omega arith, refl, omega arith)
holds-one option n k true false s t a b = absurd (omega arith)
holds-one option n k false true s t a b = absurd (omega arith)
holds-one option n k false false s t a b = (omega arith, refl, omega arith)

in_three_lem : (l : List ℕ) → length l ≤ 3 → take (in_three l).len (in_three l).bytes ≡ l
in_three_lem [] h = refl
in_three_lem (x ∷ []) h = refl
in_three_lem (x ∷ y ∷ []) h = refl
in_three_lem (x ∷ y ∷ z ∷ []) h = refl
in_three_lem (x ∷ y ∷ z ∷ w ∷ l) h = absurd (omega arith)

module _ (strict : Bool) where
  abbrev most : ℕ
  most = byte_limit strict

  read-holds : (option : List ℕ) → Bytes option → length option ≤ most → (b : BlockValue) × (read_of strict option ≡ Some b) × HoldsBlock option b × (b.num ≤ nums strict - 1)
  read-holds option b h =
      let is = read-few strict option h in
      (unpacked (uint option), is, unpacked-holds option b (omega (arith, bytes_most strict)), omega (arith, read-num strict option _ b is))

  read_held : (option : List ℕ) → length option ≤ most → (b : BlockValue) → HoldsBlock option b → read_of strict option ≡ Some b
  read_held option h b holds =
      let same = holds-one option _ b.num _ b.more _ b.size_exponent (unpacked-holds option holds.bytes holds.few) holds in
      read-few strict option h ∙ (λ i. Some (record { num = same.0 i; more = same.1 i; size_exponent = same.2 i }))

  -- ---- write

  module _ (b : BlockValue) (few : b.num ≤ nums strict - 1) (known : b.size_exponent ≤ 7) where
    num-kept : b.num % nums strict ≡ b.num
    num-kept = mod-eq_of_lt (omega (arith, nums-least strict))

    packed-is : packed strict b ≡ b.num * 16 + cond b.more 8 0 + b.size_exponent
    packed-is = rw num-kept (omega arith)

    packed-below : packed strict b < 256 ^ most
    packed-below = rw (packed-is, ← nums-bytes strict) (go b.more)
      where
        go : (m : Bool) → b.num * 16 + cond m 8 0 + b.size_exponent < nums strict * 16
        go true = omega (arith, nums-least strict)
        go false = omega (arith, nums-least strict)

    three : packed strict b < 256 ^ 3
    three = let wide : 256 ^ most ≤ 256 ^ 3 = pow-le-pow_right (omega arith) (bytes_most strict) in omega (arith, packed-below)

    write-holds : HoldsBlock (written strict b) b × Fewest (written strict b) × (length (written strict b) ≤ most) × (read_of strict (written strict b) ≡ Some b)
    write-holds =
        let short : length (written strict b) ≤ most = takes 3 most (packed strict b) packed-below in
        let holds : HoldsBlock (written strict b) b =
        record { bytes = bytes 3 (packed strict b); few = omega (arith, bytes_most strict); scalar = spells 3 (packed strict b) three ∙ packed-is; three-bits = omega arith } in
        (holds, fewest 3 (packed strict b) three, short, read_held (written strict b) short b holds)

  -- The bytes that `write` returns are those, and only those.
  pub returned : (b : BlockValue) → take (in_three (written strict b)).len (in_three (written strict b)).bytes ≡ written strict b
  returned b = in_three_lem (written strict b) (within 3 (packed strict b))

-- in either mode, for its own numbers
pub as-the-rfc : (strict : Bool) → AsTheRfc strict (byte_limit strict) (nums strict - 1)
as-the-rfc strict = record { read = read-holds strict; one = read_held strict; unread = read-long strict; write = write-holds strict }

pub both-modes : BothModes
unfolding byte_limit nums
both-modes = record { strict = as-the-rfc true; plain = as-the-rfc false; size = λ szx h. size_is szx (omega arith) }
