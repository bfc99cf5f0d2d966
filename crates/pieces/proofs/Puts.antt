-- Writes one after another are one write. Assumes nothing.
use mathlib.Core.Path.{◌≡◌, refl, sym, ap, ◌∙◌}
use mathlib.Core.List.{List, [], ◌∷◌, ◌++◌}
use Prim.Native.Nat.{ℕ, ◌+◌, ◌≤◌, ◌<◌}
use native.Mathlib.Omega.{arith}
use lib.ListN.{length, set, length-append}
use Rattle.pieces.specs.Memory.{patch, Put}
use Rattle.pieces.proofs.Memory.{patch-none, patch-after, set-patch, length-patch}

pub put-length : {m : List ℕ} {at : ℕ} {b m' : List ℕ} {r : ℕ} → Put m at b m' r → length m' ≡ length m
put-length {m} {at} {b} p = ap length p.is ∙ length-patch m at b p.room

pub put-none : (m : List ℕ) (at : ℕ) → at ≤ length m → Put m at [] m at
put-none m at h = record { room = omega arith; is = sym (patch-none m at); to = omega arith }

pub put_one : (m : List ℕ) (at x : ℕ) → at < length m → Put m at (x ∷ []) (set m at x) (at + 1)
put_one m at x h = record { room = omega arith; is = set-patch m at x h; to = omega arith }

pub put_then : {m : List ℕ} {at : ℕ} {b m₁ : List ℕ} {k : ℕ} {c m₂ : List ℕ} {r : ℕ} → Put m at b m₁ k → Put m₁ k c m₂ r → Put m at (b ++ c) m₂ r
put_then {m} {at} {b} {m₁} {k} {c} {m₂} {r} p q =
    let l : length m₁ ≡ length m = put-length p in
    let n : length (b ++ c) ≡ length b + length c = length-append b c in
    record {
      room = omega (arith, q.room, p.to);
      is = q.is ∙ ap (λ (j : ℕ). patch m₁ j c) p.to ∙ ap (λ (w : List ℕ). patch w (at + length b) c) p.is ∙ patch-after m at b c (omega (arith, q.room, p.to));
      to = omega (arith, q.to, p.to);
    }

-- what is written, by another name, and how far it reaches
pub put_as : {m : List ℕ} {at : ℕ} {b b' m' : List ℕ} {r : ℕ} → Put m at b m' r → b ≡ b' → Put m at b' m' r
put_as p e = rw (← e) p

pub put-bound : {m : List ℕ} {at : ℕ} {b m' : List ℕ} {r : ℕ} (k : ℕ) → Put m at b m' r → length b ≤ k → r ≤ at + k
put-bound k p h = omega (arith, p.to)

-- ---- a walk that writes, told by what is left: `all` goes to index `at` of m, mem is written up to index `to`, and `left` comes next

pub record Putting (m : List ℕ) (at : ℕ) (all mem : List ℕ) (to : ℕ) (left : List ℕ) : Type 0 where
  pub long : length mem ≡ length m
  pub ends : to + length left ≡ at + length all
  pub room : at + length all ≤ length m
  pub is : patch mem to left ≡ patch m at all

pub putting-start : (m : List ℕ) (at : ℕ) (all : List ℕ) → at + length all ≤ length m → Putting m at all m at all
putting-start m at all h = record { long = refl; ends = refl; room = h; is = refl }

-- what is left, by another name
pub putting-as : {m : List ℕ} {at : ℕ} {all mem : List ℕ} {to : ℕ} {left left' : List ℕ} → Putting m at all mem to left → left ≡ left' → Putting m at all mem to left'
putting-as w e = rw (← e) w

pub putting-room : {m : List ℕ} {at : ℕ} {all mem : List ℕ} {to : ℕ} (b left : List ℕ) → Putting m at all mem to (b ++ left) → to + length b ≤ length mem
putting-room b left w = omega (arith, length-append b left, w.long, w.ends, w.room)

pub putting-next : {m : List ℕ} {at : ℕ} {all mem : List ℕ} {to : ℕ} {b left mem' : List ℕ} {r : ℕ}
    → Putting m at all mem to (b ++ left) → Put mem to b mem' r → Putting m at all mem' r left
putting-next {m} {at} {all} {mem} {to} {b} {left} {mem'} {r} w p =
    let n : length (b ++ left) ≡ length b + length left = length-append b left in
    record {
      long = put-length p ∙ w.long;
      ends = omega (arith, w.ends, p.to);
      room = w.room;
      is =
          ap (λ (j : ℕ). patch mem' j left) p.to ∙ ap (λ (l : List ℕ). patch l (to + length b) left) p.is
          ∙ patch-after mem to b left (omega (arith, w.ends, w.room, w.long)) ∙ w.is;
    }

pub putting-done : {m : List ℕ} {at : ℕ} {all mem : List ℕ} {to : ℕ} → Putting m at all mem to [] → Put m at all mem to
putting-done {m} {at} {all} {mem} {to} w =
    record { room = w.room; is = sym (patch-none mem to) ∙ w.is; to = omega (arith, w.ends) }
