-- What a message that is taken tells: of its head, and of its bytes. Assumes nothing.
use mathlib.Core.Path.{◌≡◌, refl, sym, ap, ◌∙◌}
use mathlib.Core.Bool.{Bool, true, false, cond, ◌&&◌}
use mathlib.Core.List.{List, [], ◌∷◌}
use Prim.Native.Nat.{ℕ, ◌+◌, ◌-◌, ◌*◌, ◌/◌, ◌%◌, ◌≤◌}
use native.Mathlib.Omega.{arith}
use lib.Dec.{leb, eqb}
use lib.ListN.{length, take, drop, get_or}
use borrow.Author.Tests.{le-leb, eq-eqb, ne_eqb, leb-true, eqb-true}
use Rattle.pieces.proofs.Tests.{both}
use Rattle.message_format.specs.Format.{Message, Options, broken, options, options_of, malformed, means, head_ok, meaning_with, meaning_of}

-- ---- the first byte and the code

module _ (first code n : ℕ) where
  module _ (v : first / 64 ≡ 1) where
    module _ (t : first % 16 ≤ 8) where
      pub head-full : first % 16 ≤ n → (code ≡ 0 → ⊥) → true ≡ head_ok first code n
      unfolding head_ok
      head-full p z = rw (eq-eqb (first / 64) 1 v, le-leb (first % 16) 8 t, le-leb (first % 16) n p, ne_eqb code 0 z)

      pub head-empty : first % 16 ≤ n → code ≡ 0 → eqb n 0 ≡ head_ok first code n
      unfolding head_ok
      head-empty p z = rw (eq-eqb (first / 64) 1 v, le-leb (first % 16) 8 t, le-leb (first % 16) n p, eq-eqb code 0 z)

pub record Headed (first code n : ℕ) : Type 0 where
  pub version : first / 64 ≡ 1
  pub token : first % 16 ≤ 8
  pub there : first % 16 ≤ n
  pub empty : code ≡ 0 → n ≡ 0

pub head-tells : (first code n : ℕ) → head_ok first code n ≡ true → Headed first code n
unfolding head_ok
head-tells first code n e =
    let last = both (eqb (first / 64) 1 && leb (first % 16) 8 && leb (first % 16) n) (cond (eqb code 0) (eqb n 0) true) e in
    let third = both (eqb (first / 64) 1 && leb (first % 16) 8) (leb (first % 16) n) last.0 in
    let two = both (eqb (first / 64) 1) (leb (first % 16) 8) third.0 in
    record {
      version = eqb-true (first / 64) 1 two.0;
      token = leb-true (first % 16) 8 two.1;
      there = leb-true (first % 16) n third.1;
      empty = λ z. eqb-true n 0 (rw (eq-eqb code 0 z) at last.1);
    }

-- ---- the message

pub meaning-long : (bytes : List ℕ) → 4 ≤ length bytes
    → meaning_of bytes
    ≡ cond (head_ok (get_or bytes 0 0) (get_or bytes 1 0) (length bytes - 4))
    (meaning_with (get_or bytes 0 0) (get_or bytes 1 0) (get_or bytes 2 0 * 256 + get_or bytes 3 0) (drop 4 bytes) (options_of 0 (drop (get_or bytes 0 0 % 16) (drop 4 bytes))))
    malformed
unfolding meaning_of
meaning-long [] h = absurd (omega arith)
meaning-long (a ∷ []) h = absurd (omega arith)
meaning-long (a ∷ b ∷ []) h = absurd (omega arith)
meaning-long (a ∷ b ∷ x ∷ []) h = absurd (omega arith)
meaning-long (a ∷ b ∷ x ∷ y ∷ rest) h =
    ap (λ (n : ℕ). cond (head_ok a b n) (meaning_with a b (x * 256 + y) rest (options_of 0 (drop (a % 16) rest))) malformed) (omega arith)

pub record Meant (bytes : List ℕ) (m : Message) : Type 0 where
  pub long : 4 ≤ length bytes
  pub ok : head_ok (get_or bytes 0 0) (get_or bytes 1 0) (length bytes - 4) ≡ true
  pub type-is : m.message_type ≡ get_or bytes 0 0 / 16 % 4
  pub code_is : m.code ≡ get_or bytes 1 0
  pub id-is : m.message_id ≡ get_or bytes 2 0 * 256 + get_or bytes 3 0
  pub token-is : m.token ≡ take (get_or bytes 0 0 % 16) (drop 4 bytes)
  pub left : List ℕ
  pub listed : options_of 0 (drop (get_or bytes 0 0 % 16) (drop 4 bytes)) ≡ options m.options left
  pub payload-is : m.payload ≡ drop 1 left

pub no-meaning : {m : Message} → malformed ≡ means m → ⊥
no-meaning e = let z : ◌≡◌ {A = ℕ} 0 1 = cc in omega arith

pub meaning-tells : (bytes : List ℕ) (m : Message) → meaning_of bytes ≡ means m → Meant bytes m
unfolding meaning_of
meaning-tells [] m e = absurd (no-meaning e)
meaning-tells (a ∷ []) m e = absurd (no-meaning e)
meaning-tells (a ∷ b ∷ []) m e = absurd (no-meaning e)
meaning-tells (a ∷ b ∷ x ∷ []) m e = absurd (no-meaning e)
meaning-tells (a ∷ b ∷ x ∷ y ∷ rest) m e = go (head_ok a b (length rest)) refl (options_of 0 (drop (a % 16) rest)) refl e
  where
    go : (h : Bool) → head_ok a b (length rest) ≡ h → (o : Options) → options_of 0 (drop (a % 16) rest) ≡ o
        → cond h (meaning_with a b (x * 256 + y) rest o) malformed ≡ means m → Meant (a ∷ b ∷ x ∷ y ∷ rest) m
    go false p o q e = absurd (no-meaning e)
    go true p broken q e = absurd (no-meaning e)
    go true p (options list left) q e =
        let is : m ≡ record { message_type = a / 16 % 4; code = b; message_id = x * 256 + y; token = take (a % 16) rest; options = list; payload = drop 1 left } = cc in
        let n : length rest ≡ length (a ∷ b ∷ x ∷ y ∷ rest) - 4 = omega arith in
        record {
          long = omega arith;
          ok = rw (← n) p;
          type-is = ap (λ (m : Message). m.message_type) is;
          code_is = ap (λ (m : Message). m.code) is;
          id-is = ap (λ (m : Message). m.message_id) is;
          token-is = ap (λ (m : Message). m.token) is;
          left = left;
          listed = q ∙ ap (λ (m : Message). options m.options left) (sym is);
          payload-is = ap (λ (m : Message). m.payload) is;
        }
