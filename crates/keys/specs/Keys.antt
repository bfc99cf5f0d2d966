-- A key as a call names it and as an entry stores it. What proofs about tables and calls use of a key are the laws in proofs/Keys.antt.
use Rattle.std.specs.Prelude.{ℕ, ◌-◌, Bool, true, false, cond, ◌&&◌, List, [], ◌∷◌, ◌++◌, length, take, replicate, leb, eqb}
use Rattle.digest.specs.Digest.{digest_of}
use Rattle.tags.specs.Tags.{folded}
use Rattle.keys.specs.declared.Key.{Key}
use Rattle.keys.specs.declared.NamedKey.{NamedKey}
use Rattle.keys.specs.Lists.{all}

-- A key as a call names it: its bytes.
abbrev pub Name : Type 0
Name = List ℕ

-- "Equal bytes, same key."
unfoldable pub same : Name → Name → Bool
same [] [] = true
same [] (b ∷ t) = false
same (a ∷ s) [] = false
same (a ∷ s) (b ∷ t) = eqb a b && same s t

-- "A key is 1 to 64 bytes."
unfoldable pub key_ok : Name → Bool
key_ok k = leb 1 (length k) && leb (length k) 64

-- The key that an entry in use stores. Its bytes past its length are in no clause: they are never compared.
unfoldable pub key_of : Key → Name
key_of k = take k.len k.bytes

-- Off the limits: "a bad key length".
unfoldable pub stored_ok : Key → Bool
stored_ok k = leb 1 k.len && leb k.len 64

unfoldable pub stored : Name → Key
stored k = record { bytes = k ++ replicate (64 - length k) 0; len = length k }

-- The key of a free entry: zeros.
abbrev pub no_key : Key
no_key = record { bytes = replicate 64 0; len = 0 }

unfoldable pub is_no_key : Key → Bool
is_no_key k = all (λ b. eqb b 0) k.bytes && eqb k.len 0

-- What its type gives of a key: its bytes are 64.
unfoldable pub key_sized : Key → Bool
key_sized k = eqb (length k.bytes) 64

-- ---- How the code looks a key up. No contract of the handler's two calls, nor of an export, cites this.

-- A number that keys have in common if they are the same.
unfoldable pub tag_of : Name → ℕ
tag_of k = folded (digest_of k)

-- The key that a call names, as the code has it.
unfoldable pub named_of : Name → NamedKey
named_of k = cond (key_ok k) (record { ok = true; tag = tag_of k; key = stored k }) (record { ok = false; tag = 0; key = no_key })
