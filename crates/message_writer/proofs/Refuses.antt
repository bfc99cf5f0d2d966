-- What the answer says: of what is written, that it was described, has an encoding and stands at the start; of what is refused, that the
-- output is untouched, and its number. Assumes nothing.
use mathlib.Core.Path.{◌≡◌, refl}
use mathlib.Core.Bool.{Bool, true, false, cond, ◌&&◌}
use mathlib.Core.List.{List}
use Prim.Native.Nat.{ℕ, ◌≤◌}
use native.Mathlib.Omega.{arith}
use lib.Dec.{leb}
use lib.ListN.{length, take}
use borrow.Author.Tests.{leb-true}
use Rattle.pieces.specs.Memory.{patch, part}
use Rattle.pieces.proofs.Memory.{part-patch}
use Rattle.message_format.specs.Format.{bytes_of, encodable}
use Rattle.message_measure.specs.Given.{Given, describes, message_of, takes}
use Rattle.message_writer.specs.declared.NotWritten.{NotWritten}
use Rattle.std.specs.Prelude.{Result, Ok, Err}
use Rattle.message_writer.specs.Writer.{Writes, refusal_number}
use Rattle.pieces.proofs.Tests.{and_left, and_right}

pub record Described (room : ℕ) (g : Given) : Type 0 where
  pub described : describes g.numbers g.lengths g.values ≡ true
  pub encoded : encodable (message_of g) ≡ true
  pub fits : length (bytes_of (message_of g)) ≤ room

pub takes-parts : (room : ℕ) (g : Given) → takes room g ≡ true → Described room g
unfolding takes
takes-parts room g t =
    let d : Bool = describes g.numbers g.lengths g.values in
    let e : Bool = encodable (message_of g) in
    let n : ℕ = length (bytes_of (message_of g)) in
    let de = and_left (d && e) (leb n room) t in
    record { described = and_left d e de; encoded = and_right d e de; fits = leb-true n room (and_right (d && e) (leb n room) t) }

-- what an answer says of the test behind it
written-test : (b : Bool) (n m : ℕ) → ◌≡◌ {A = Result ℕ NotWritten} (Ok n) (cond b (Ok m) (Err (record {}))) → (b ≡ true) × (n ≡ m)
written-test true n m e = (refl, cc)
written-test false n m e = let z : ◌≡◌ {A = ℕ} 0 1 = cc in absurd (omega arith)

pub refused-test : (b : Bool) (k : NotWritten) (m : ℕ) → ◌≡◌ {A = Result ℕ NotWritten} (Err k) (cond b (Ok m) (Err (record {}))) → b ≡ false
refused-test true k m e = let z : ◌≡◌ {A = ℕ} 0 1 = cc in absurd (omega arith)
refused-test false k m e = refl

module _ (out : List ℕ) (g : Given) (out' : List ℕ) where
  pub written-described : (n : ℕ) → Writes out g out' (Ok n) → Described (length out) g
  written-described n w = takes-parts (length out) g (written-test (takes (length out) g) n (length (bytes_of (message_of g))) w.answer).0

  pub written-bytes : (n : ℕ) → Writes out g out' (Ok n) → take n out' ≡ bytes_of (message_of g)
  unfolding part
  written-bytes n w =
      let b : List ℕ = bytes_of (message_of g) in
      let t = written-test (takes (length out) g) n (length b) w.answer in
      let o : out' ≡ patch out 0 b = rw t.0 at w.output in
      rw (o, t.1) (part-patch out 0 b (omega arith))

  pub refused-untouched : (k : NotWritten) → Writes out g out' (Err k) → (out' ≡ out) × (refusal_number k ≡ 21)
  refused-untouched k w = (rw (refused-test (takes (length out) g) k (length (bytes_of (message_of g))) w.answer) at w.output, refl)
