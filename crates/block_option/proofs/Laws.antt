-- The laws of an option's bytes: what they spell, and the cases of read and write. Assumes nothing.
use Rattle.std.specs.Prelude.{Some, None}
use mathlib.Core.Path.{◌≡◌, refl, sym, ap, ◌∙◌}
use mathlib.Core.Bool.{Bool, true, false}
use mathlib.Core.List.{List, [], ◌∷◌, ◌++◌}
use Prim.Native.Nat.{ℕ, suc, ◌+◌, ◌*◌, ◌/◌, ◌%◌, ◌^◌, ◌≤◌, ◌<◌}
use native.Mathlib.Nat.{pow-suc, pow-le-pow_right, mul_assoc, mul-le-mul_right}
use native.Mathlib.Numerals.{add-one}
use native.Mathlib.Omega.{arith}
use lib.Dec.{ltb}
use lib.ListN.{length, take, get_or, length-append}
use lib.Seq.{take_all, take-suc}
use borrow.Author.Tests.{ltb-true, ltb-false, lt-ltb, le-ltb, eq-eqb, ne_eqb}
use Rattle.config.specs.Mode.{byte_limit, nums}
use Rattle.config.proofs.Mode.{nums-bytes}
use Rattle.block_value.specs.declared.BlockValue.{BlockValue}
use Rattle.block_option.specs.Uint.{uint, Bytes, shortest}
use Rattle.block_option.specs.Option.{unpacked, read_of}

-- ---- what bytes spell

pub uint-snoc : (l : List ℕ) (b : ℕ) → uint (l ++ (b ∷ [])) ≡ uint l * 256 + b
unfolding uint
uint-snoc [] b = omega arith
uint-snoc (a ∷ l) b =
    let one : length (l ++ (b ∷ [])) ≡ suc (length l) = length-append l (b ∷ []) ∙ add-one (length l) in
    let high : a * (256 ^ length l * 256) ≡ a * 256 ^ length l * 256 = sym (mul_assoc a (256 ^ length l) 256) in
    rw (one, pow-suc 256 (length l), uint-snoc l b) (omega arith)

-- the number so far, of the first i bytes
pub record Upto (l : List ℕ) (v i : ℕ) : Type 0 where
  pub is : v ≡ uint (take i l)
  pub below : v < 256 ^ i
  pub within : i ≤ length l

pub upto-start : (l : List ℕ) → Upto l 0 0
unfolding uint
upto-start l = record { is = refl; below = omega arith; within = omega arith }

module _ (l : List ℕ) (v i : ℕ) (upto : Upto l v i) where
  pub upto_next : (b : ℕ) → i < length l → b ≡ get_or l i 0 → b < 256 → Upto l (v * 256 + b) (i + 1)
  upto_next b h e k =
      let more : take (i + 1) l ≡ take i l ++ (get_or l i 0 ∷ []) = ap (λ (n : ℕ). take n l) (add-one i) ∙ take-suc l i 0 h in
      let power : 256 ^ (i + 1) ≡ 256 ^ i * 256 = ap (λ (n : ℕ). 256 ^ n) (add-one i) ∙ pow-suc 256 i in
      record {
        is = rw (more, uint-snoc (take i l) (get_or l i 0), ← e, ← upto.is);
        below = omega (arith, upto.below);
        within = omega arith;
      }

  pub upto_done : length l ≤ i → v ≡ uint l
  upto_done h = upto.is ∙ ap uint (take_all i l h)

  -- of three bytes at most
  pub upto-small : i < length l → length l ≤ 3 → v < 65536
  upto-small h k =
      let two : i ≤ 2 = omega arith in
      let p : 256 ^ i ≤ 256 ^ 2 = pow-le-pow_right (omega arith) two in
      omega (arith, upto.below)

-- n bytes spell less than 256 ^ n
pub uint-below : (l : List ℕ) → Bytes l → uint l < 256 ^ length l
unfolding uint
uint-below [] h = omega arith
uint-below (b ∷ l) h =
    let below : b * 256 ^ length l ≤ 255 * 256 ^ length l = mul-le-mul_right (256 ^ length l) (omega arith) in
    let rest = uint-below l h.1 in
    rw (pow-suc 256 (length l)) (omega arith)

-- ---- read, by the option's length

module _ (strict : Bool) (option : List ℕ) where
  pub read-few : length option ≤ byte_limit strict → read_of strict option ≡ Some (unpacked (uint option))
  unfolding read_of
  read-few h = rw (le-ltb (byte_limit strict) (length option) h)

  pub read-long : byte_limit strict < length option → read_of strict option ≡ None
  unfolding read_of
  read-long h = rw (lt-ltb (byte_limit strict) (length option) h)

  -- what was read is what the bytes spell
  read_is : (b : BlockValue) → read_of strict option ≡ Some b → (length option ≤ byte_limit strict) × (b ≡ unpacked (uint option))
  read_is b e = go (ltb (byte_limit strict) (length option)) refl
    where
      go : (long : Bool) → ltb (byte_limit strict) (length option) ≡ long → (length option ≤ byte_limit strict) × (b ≡ unpacked (uint option))
      go true l = let no : None ≡ Some b = sym (read-long (ltb-true _ _ l)) ∙ e in let z : ◌≡◌ {A = ℕ} 0 1 = cc in absurd (omega arith)
      go false l =
          let few = ltb-false (byte_limit strict) (length option) l in
          let same : Some (unpacked (uint option)) ≡ Some b = sym (read-few few) ∙ e in
          let is : b ≡ unpacked (uint option) = cc in
          (few, is)

  pub read-exponent : (b : BlockValue) → read_of strict option ≡ Some b → b.size_exponent ≤ 7
  read-exponent b e = rw (read_is b e).1 (omega arith)

  pub read-num : (b : BlockValue) → Bytes option → read_of strict option ≡ Some b → b.num < nums strict
  read-num b h e =
      let told = read_is b e in
      let wide : 256 ^ length option ≤ 256 ^ byte_limit strict = pow-le-pow_right (omega arith) told.0 in
      rw told.1 (omega (arith, uint-below option h, nums-bytes strict))

-- ---- write, by the number's size

pub short-0 : (v : ℕ) → v ≡ 0 → shortest 3 v ≡ []
unfolding shortest
short-0 v h = rw (eq-eqb v 0 h)

module _ (v : ℕ) (some : v ≡ 0 → ⊥) where
  pub short-1 : v < 256 → shortest 3 v ≡ v ∷ []
  unfolding shortest
  short-1 h = rw (ne_eqb v 0 some, eq-eqb (v / 256) 0 (omega arith)) (ap (λ (b : ℕ). b ∷ []) (omega arith))

  module _ (least : 256 ≤ v) where
    pub short-2 : v < 65536 → shortest 3 v ≡ v / 256 ∷ v % 256 ∷ []
    unfolding shortest
    short-2 h =
        rw (ne_eqb v 0 some, ne_eqb (v / 256) 0 (λ e. omega arith), eq-eqb (v / 256 / 256) 0 (omega arith)) (ap (λ (b : ℕ). b ∷ v % 256 ∷ []) (omega arith))

    pub short-3 : 65536 ≤ v → v < 2 ^ 24 → shortest 3 v ≡ v / 65536 ∷ v / 256 % 256 ∷ v % 256 ∷ []
    unfolding shortest
    short-3 h k =
        rw (ne_eqb v 0 some, ne_eqb (v / 256) 0 (λ e. omega arith), ne_eqb (v / 256 / 256) 0 (λ e. omega arith))
        (ap (λ (b : ℕ). b ∷ v / 256 % 256 ∷ v % 256 ∷ []) (omega arith))
