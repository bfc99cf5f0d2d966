-- What is written, by the test of the message and what is put. Assumes nothing.
use mathlib.Core.Path.{◌≡◌, refl, sym, ap, ◌∙◌}
use mathlib.Core.Bool.{Bool, true, false}
use mathlib.Core.List.{List, ◌++◌}
use Prim.Native.Nat.{ℕ, ◌+◌}
use native.Mathlib.Omega.{arith}
use lib.ListN.{length}
use Rattle.pieces.specs.Memory.{Put}
use Rattle.pieces.proofs.Puts.{put_as}
use Rattle.message_format.specs.Format.{bytes_of, head_bytes, payload_bytes}
use Rattle.message_measure.specs.Given.{Given, message_of, takes}
use Rattle.message_measure.proofs.Taken.{options_of}
use Rattle.std.specs.Prelude.{Ok, Err}
use Rattle.message_writer.specs.Writer.{Writes, opening}

pub bytes-are : (g : Given) → bytes_of (message_of g) ≡ opening g.message_type g.code g.message_id g.token ++ (options_of g ++ payload_bytes g.payload)
unfolding bytes_of head_bytes opening
bytes-are g = refl

pub opening-length : (message_type code message_id : ℕ) (token : List ℕ) → length (opening message_type code message_id token) ≡ 4 + length token
unfolding opening head_bytes
opening-length message_type code message_id token = omega arith

module _ (out : List ℕ) (g : Given) where
  pub writes-taken : (out' : List ℕ) (r : ℕ) → takes (length out) g ≡ true
      → Put out 0 (opening g.message_type g.code g.message_id g.token ++ (options_of g ++ payload_bytes g.payload)) out' r → Writes out g out' (Ok r)
  writes-taken out' r t p =
      let q = put_as p (sym (bytes-are g)) in
      let n : r ≡ length (bytes_of (message_of g)) = omega (arith, q.to) in
      record { answer = rw t (ap Ok n); output = rw t q.is }

  pub writes-refused : {b : Bool} → b ≡ takes (length out) g → b ≡ false → Writes out g out (Err (record {}))
  writes-refused is e = let t = sym is ∙ e in record { answer = rw t refl; output = rw t refl }
