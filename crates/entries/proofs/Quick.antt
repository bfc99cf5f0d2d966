-- Laws of the quick tests of an entry: entries in use with one key have one tag. Assumes nothing.
use mathlib.Core.Path.{◌≡◌}
use mathlib.Core.Bool.{true, false, ◌&&◌}
use Prim.Native.Nat.{ℕ}
use Rattle.entries.specs.declared.Entry.{Entry}
use Rattle.keys.specs.Keys.{Name, same, key_of, tag_of as key_tag}
use Rattle.entries.specs.Entries.{holds, clash, live}
use Rattle.entries.specs.Quick.{tag_of, holds_live}
use Rattle.entries.proofs.Entries.{live-used}
use Rattle.pieces.proofs.Tests.{ands, and_left, and_right, refute}
use Rattle.keys.proofs.Keys.{same-eq}

-- ---- entries that clash have one tag

pub tag_same : (e f : Entry) (i j : ℕ) → clash e f ≡ true → tag_of f j ≡ tag_of e i
unfolding clash holds tag_of
tag_same e f i j h =
    let k : key_of e.key ≡ key_of f.key = same-eq (key_of e.key) (key_of f.key) (search ands) in
    let a : e.used ≡ true = search ands in
    let b : f.used ≡ true = search ands in
    rw (a, b, k)

-- an entry without the key's tag does not hold it
pub untagged : (k : Name) (e : Entry) (i lifetime time : ℕ) → (tag_of e i ≡ key_tag k → ⊥) → holds_live lifetime time k e ≡ false
unfolding holds_live tag_of
untagged k e i lifetime time n =
    refute (live lifetime time e && same k (key_of e.key)) (λ h.
    let a : e.used ≡ true = live-used lifetime time e (and_left (live lifetime time e) (same k (key_of e.key)) h) in
    let q : k ≡ key_of e.key = same-eq k (key_of e.key) (and_right (live lifetime time e) (same k (key_of e.key)) h) in
    n (rw (a, ← q)))
