-- The laws of an option's head, of the message's first bytes and of the payload's: their cases and their lengths. Assumes nothing.
use mathlib.Core.Path.{◌≡◌, refl}
use mathlib.Core.List.{List, [], ◌∷◌, ◌++◌}
use Prim.Native.Nat.{ℕ, ◌+◌, ◌*◌, ◌<◌}
use native.Mathlib.Omega.{arith}
use lib.ListN.{length}
use borrow.Author.Tests.{lt-ltb}
use Rattle.message_format.specs.Format.{nibble_of, extension, option_head, payload_bytes}

-- ---- what extends a nibble

pub extension-0 : (n : ℕ) → n < 13 → extension n ≡ []
unfolding extension
extension-0 n h = rw (lt-ltb n 13 h)

-- ---- an option's head

pub head-is : (delta len x y : ℕ) → x ≡ nibble_of delta → y ≡ nibble_of len → ((x * 16 + y) ∷ []) ++ (extension delta ++ extension len) ≡ option_head delta len
unfolding option_head
head-is delta len x y p q = rw (p, q)

-- ---- the payload

pub payload-none : (payload : List ℕ) → length payload ≡ 0 → payload_bytes payload ≡ []
unfolding payload_bytes
payload-none [] h = refl
payload-none (b ∷ payload) h = absurd (omega arith)

pub payload-some : (payload : List ℕ) → (length payload ≡ 0 → ⊥) → payload_bytes payload ≡ 255 ∷ payload
unfolding payload_bytes
payload-some [] h = absurd (h refl)
payload-some (b ∷ payload) h = refl
