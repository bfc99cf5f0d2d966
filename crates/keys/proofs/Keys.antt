-- Laws of keys: `same` tells equal from unequal, a stored key reads back as itself and within the limits, no key is zeros, and a named key is stored. Assumes
-- nothing.
use Prim.Native.Nat.{ℕ, ◌+◌, ◌-◌, ◌≤◌}
use mathlib.Core.Bool.{true, false≢true}
use mathlib.Core.Path.{◌≡◌, refl, sym, ap, ap₂, ◌∙◌}
use mathlib.Core.List.{List, [], ◌∷◌, ◌++◌}
use native.Mathlib.Omega.{arith}
use lib.ListN.{length, take, replicate, length-append, length-replicate}
use lib.Seq.{take-append_seam, length-take-le}
use lib.Dec.{leb, eqb}
use lib.Pointwise.{pointwise}
use borrow.Author.Tests.{leb-true, eqb-true, eq-eqb}
use Rattle.pieces.specs.Memory.{patch, Put}
use Rattle.pieces.proofs.Puts.{put-length, put_then, put_as}
use Rattle.pieces.proofs.Tests.{and_left, and_right, and_both, by_cases}
use Rattle.keys.specs.declared.Key.{Key}
use Rattle.keys.specs.declared.NamedKey.{NamedKey}
use Rattle.keys.specs.Lists.{all}
use Rattle.keys.specs.Keys.{Name, same, key_ok, key_of, stored_ok, stored, no_key, is_no_key, key_sized, tag_of, named_of}
use Rattle.keys.proofs.Turns.{zeros}

pub same_refl : (s : Name) → same s s ≡ true
unfolding same
same_refl [] = refl
same_refl (a ∷ s) = and_both (eqb a a) (same s s) (eq-eqb a a refl) (same_refl s)

pub same-eq : (s t : Name) → same s t ≡ true → s ≡ t
unfolding same
same-eq [] [] e = refl
same-eq [] (b ∷ t) e = absurd (false≢true e)
same-eq (a ∷ s) [] e = absurd (false≢true e)
same-eq (a ∷ s) (b ∷ t) e =
    ap₂ ◌∷◌ (eqb-true a b (and_left (eqb a b) (same s t) e)) (same-eq s t (and_right (eqb a b) (same s t) e))

-- what `==` answers at slices
pub same-pairs : (s t : Name) → pointwise eqb s t ≡ same s t
unfolding same
same-pairs [] [] = refl
same-pairs [] (b ∷ t) = refl
same-pairs (a ∷ s) [] = refl
same-pairs (a ∷ s) (b ∷ t) = rw (same-pairs s t)

pub zero-pairs : (l : List ℕ) → pointwise eqb l (replicate (length l) 0) ≡ all (λ b. eqb b 0) l
zero-pairs [] = refl
zero-pairs (x ∷ l) = rw (zero-pairs l)

-- a key that is stored reads back as it was
pub key-stored : (k : Name) → key_of (stored k) ≡ k
unfolding key_of stored
key-stored k = take-append_seam k (replicate (64 - length k) 0)

pub key-short : (k : Name) → key_ok k ≡ true → length k ≤ 64
unfolding key_ok
key-short k h = leb-true (length k) 64 (and_right (leb 1 (length k)) (leb (length k) 64) h)

pub stored_ok_lem : (k : Name) → key_ok k ≡ true → stored_ok (stored k) ≡ true
unfolding key_ok stored_ok stored
stored_ok_lem k h = h

-- ---- a key written in 64 bytes

pub stored-64 : (k : Name) → length k ≤ 64 → length (stored k).bytes ≡ 64
unfolding stored
stored-64 k h = simp (length-append, length-replicate) (omega arith)

-- the first n bytes, which are the key's, and zeros behind them
module _ (key : Key) (n : ℕ) (sized : length key.bytes ≡ 64) (few : n ≤ 64) (cut : take n key.bytes ≡ take key.len key.bytes) where
  long : length (take n key.bytes) ≡ n
  long = length-take-le n key.bytes (omega arith)

  stored_is : take n key.bytes ++ replicate (64 - n) 0 ≡ (stored (key_of key)).bytes
  unfolding stored key_of
  stored_is = rw (← cut) (ap (λ (k : ℕ). take n key.bytes ++ replicate (64 - k) 0) (sym long))

  pub put-stored : {m : List ℕ} {at : ℕ} {m₁ : List ℕ} {to : ℕ} {m₂ : List ℕ} → at + 64 ≤ length m → Put m at (take n key.bytes) m₁ to
      → m₂ ≡ patch m₁ to (replicate (64 - n) 0) → Put m at (stored (key_of key)).bytes m₂ (at + 64) × (length (stored (key_of key)).bytes ≡ 64)
  put-stored {m} {at} {m₁} {to} {m₂} room p e =
      let zeros : length (replicate {A = ℕ} (64 - n) 0) ≡ 64 - n = length-replicate (64 - n) 0 in
      let q : Put m₁ to (replicate (64 - n) 0) m₂ (at + 64) =
      record { room = omega (arith, zeros, long, put-length p, p.to); is = e; to = omega (arith, zeros, long, p.to) } in
      (put_as (put_then p q) stored_is, ap length (sym stored_is) ∙ length-append (take n key.bytes) (replicate (64 - n) 0) ∙ omega (arith, zeros, long))

-- the key of a free entry is zeros
pub no_key_lem : is_no_key no_key ≡ true
unfolding is_no_key
no_key_lem = refl

pub no-key-is : (k : Key) → is_no_key k ≡ true → key_sized k ≡ true → k ≡ no_key
unfolding is_no_key key_sized
no-key-is k h sized =
    let zero = zeros k.bytes (and_left (all (λ b. eqb b 0) k.bytes) (eqb k.len 0) h) in
    let bytes : k.bytes ≡ replicate 64 0 = zero ∙ ap (λ (n : ℕ). replicate n 0) (eqb-true (length k.bytes) 64 sized) in
    let len : k.len ≡ 0 = eqb-true k.len 0 (and_right (all (λ b. eqb b 0) k.bytes) (eqb k.len 0) h) in
    λ i. record { bytes = bytes i; len = len i }

-- ---- a key that a call names, as the code has it

module _ (k : Name) (n : NamedKey) (is : n ≡ named_of k) where
  pub named_ok : n.ok ≡ key_ok k
  unfolding named_of
  named_ok = by_cases (key_ok k) (λ y. rw (is, y)) (λ f. rw (is, f))

  module _ (ok : key_ok k ≡ true) where
    pub named-key : n.key ≡ stored k
    unfolding named_of
    named-key = ap (λ (z : NamedKey). z.key) is ∙ rw ok

    pub named-tag : n.tag ≡ tag_of k
    unfolding named_of
    named-tag = ap (λ (z : NamedKey). z.tag) is ∙ rw ok

    -- stored, then read, it is itself
    pub named-read : key_of n.key ≡ k
    named-read = ap key_of named-key ∙ key-stored k
