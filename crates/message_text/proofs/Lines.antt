-- The line of a message, by what the reader answers, and what is said of a line, by what its hex says. Assumes nothing.
use mathlib.Core.Path.{◌≡◌, refl, sym, ap, ◌∙◌}
use mathlib.Core.List.{List, ◌++◌}
use Prim.Native.Nat.{ℕ}
use native.Mathlib.Omega.{arith}
use lib.ListN.{length}
use Rattle.message_format.specs.Format.{Message, Meaning, malformed, means, meaning_of}
use Rattle.message.specs.Reader.{reading_of, read_of}
use Rattle.message.specs.declared.Packet.{Packet}
use Rattle.message_format.specs.declared.Malformed.{Malformed}
use Rattle.std.specs.Prelude.{Err}
use Rattle.head_text.specs.Head.{head_text}
use Rattle.parts_text.specs.Parts.{parts_text}
use Rattle.parts_text.proofs.Places.{Read}
use Rattle.hex_line.specs.Line.{Hex, hex_of, bytes_of}
use Rattle.message_text.specs.Text.{refused_text, message_text, meaning_text, shown_text, line_text}

refused-tells : (bytes : List ℕ) (code : Malformed) → read_of bytes ≡ Err code → meaning_of bytes ≡ malformed
refused-tells bytes code e = go (meaning_of bytes) refl e
  where
    go : (meaning : Meaning) → meaning_of bytes ≡ meaning → reading_of (length bytes) meaning ≡ Err code → meaning_of bytes ≡ malformed
    go malformed p q = p
    go (means m) p q = absurd (let z : ◌≡◌ {A = ℕ} 0 1 = cc in omega arith)

pub refused-line : (number : ℕ) (bytes : List ℕ) (code : Malformed) → read_of bytes ≡ Err code → refused_text number ≡ meaning_text number (meaning_of bytes)
refused-line number bytes code e = ap (meaning_text number) (sym (refused-tells bytes code e))

pub message-line : (number : ℕ) (bytes : List ℕ) (packet : Packet) (m : Message) → Read bytes packet m
    → head_text number packet.message_type packet.code packet.message_id ++ parts_text m ≡ meaning_text number (meaning_of bytes)
unfolding message_text
message-line number bytes packet m r =
    ap (λ (p : Packet). head_text number p.message_type p.code p.message_id ++ parts_text m) r.packet-is
    ∙ ap (meaning_text number) (sym r.means-it)

-- what is said of a line, by what its hex says
pub shown-is : (number : ℕ) (line : List ℕ) (h : Hex) → h ≡ hex_of line → shown_text number h (bytes_of line) ≡ line_text number line
unfolding line_text
shown-is number line h e = ap (λ (g : Hex). shown_text number g (bytes_of line)) e
