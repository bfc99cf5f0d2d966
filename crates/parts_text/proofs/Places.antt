-- What the reader's answer tells of the bytes, and the text of its parts. Assumes nothing.
use mathlib.Core.Path.{◌≡◌, refl}
use mathlib.Core.List.{List, [], ◌∷◌, ◌++◌, append_assoc}
use Prim.Native.Nat.{ℕ, ◌+◌, ◌≤◌}
use native.Mathlib.Omega.{arith}
use lib.ListN.{length, drop}
use Rattle.pieces.specs.Memory.{within}
use Rattle.message_format.specs.Format.{Message, options, Meaning, malformed, means, payload_bytes, options_of, meaning_of}
use Rattle.message.specs.Reader.{packet_of, reading_of, read_of}
use Rattle.message.specs.declared.Packet.{Packet}
use Rattle.std.specs.Prelude.{Ok}
use Rattle.message.proofs.Shown.{parts, options-shown, token-shown, payload-shown}
use Rattle.script_text.specs.Text.{shown}
use Rattle.parts_text.specs.Parts.{options_text, parts_text}

marker-length : (payload : List ℕ) → length payload ≤ length (payload_bytes payload)
unfolding payload_bytes
marker-length [] = omega arith
marker-length (b ∷ payload) = omega arith

-- The parts that it names are those of the message that the bytes mean.
pub record Read (bytes : List ℕ) (packet : Packet) (m : Message) : Type 0 where
  pub means-it : meaning_of bytes ≡ means m
  pub packet-is : packet ≡ packet_of (length bytes) m
  pub room : 4 + length m.token + length (payload_bytes m.payload) ≤ length bytes
  pub short : length m.payload ≤ length (payload_bytes m.payload)
  pub first-is : packet.options.from ≡ 4 + length m.token
  pub token-is : within bytes packet.token.from packet.token.to ≡ m.token
  pub options-are : options_of 0 (drop packet.options.from bytes) ≡ options m.options (payload_bytes m.payload)
  pub payload-is : within bytes packet.payload.from packet.payload.to ≡ m.payload

module _ (bytes : List ℕ) (m : Message) (e : meaning_of bytes ≡ means m) where
  is_read : Read bytes (packet_of (length bytes) m) m
  is_read = record {
    means-it = e;
    packet-is = refl;
    room = (parts bytes m e).room;
    short = marker-length m.payload;
    first-is = refl;
    token-is = token-shown bytes m e;
    options-are = options-shown bytes m e;
    payload-is = payload-shown bytes m e;
  }

pub read-tells : (bytes : List ℕ) (packet : Packet) → read_of bytes ≡ Ok packet → (m : Message) × Read bytes packet m
read-tells bytes packet e = go (meaning_of bytes) refl e
  where
    go : (meaning : Meaning) → meaning_of bytes ≡ meaning → reading_of (length bytes) meaning ≡ Ok packet → (m : Message) × Read bytes packet m
    go malformed p q = absurd (let z : ◌≡◌ {A = ℕ} 0 1 = cc in omega arith)
    go (means m) p q = let same : packet_of (length bytes) m ≡ packet = cc in (m, rw same at (is_read bytes m p))

-- what is put: each part with the byte behind it
pub parts_are : (m : Message) → (shown m.token ++ (32 ∷ [])) ++ (options_text m.options ++ (32 ∷ shown m.payload ++ (10 ∷ []))) ≡ parts_text m
unfolding parts_text
parts_are m = append_assoc (shown m.token) (32 ∷ []) (options_text m.options ++ (32 ∷ shown m.payload ++ (10 ∷ [])))
