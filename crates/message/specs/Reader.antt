-- What the reader gives of a message: where its parts stand. Nothing is copied.
use Rattle.std.specs.Prelude.{ℕ, ◌+◌, ◌-◌, ◌*◌, ◌/◌, ◌%◌, List, [], length, get_or, Result, Ok, Err}
use Rattle.message_format.specs.Format.{Message, Meaning, malformed, means, payload_bytes, meaning_of}
use Rattle.option_reader.specs.Reader.{between}
use Rattle.message_format.specs.declared.Malformed.{Malformed}
use Rattle.message.specs.declared.Packet.{Packet}

-- The parts of a message of n bytes: the token after the four bytes of the head, then the options, and the payload at the end.
abbrev pub packet_of : ℕ → Message → Packet
packet_of n m = record {
  message_type = m.message_type;
  code = m.code;
  message_id = m.message_id;
  token = between 4 (4 + length m.token);
  options = between (4 + length m.token) (n - length (payload_bytes m.payload));
  payload = between (n - length m.payload) n;
}

-- The same, by the first byte and how many bytes are left where the options end.
abbrev pub packet_with : List ℕ → ℕ → ℕ → Packet
packet_with bytes first left = record {
  message_type = first / 16 % 4;
  code = get_or bytes 1 0;
  message_id = get_or bytes 2 0 * 256 + get_or bytes 3 0;
  token = between 4 (4 + first % 16);
  options = between (4 + first % 16) (length bytes - left);
  payload = between (length bytes - (left - 1)) (length bytes);
}

-- "11, malformed message or an option number above 65,535 .. returns no part of it."
abbrev pub reading_of : ℕ → Meaning → Result Packet Malformed
reading_of n malformed = Err (record {})
reading_of n (means m) = Ok (packet_of n m)

-- Every message is refused, or shown as what it means.
abbrev pub read_of : List ℕ → Result Packet Malformed
read_of bytes = reading_of (length bytes) (meaning_of bytes)

-- The message with its payload taken out.
abbrev pub without_payload : Message → Message
without_payload m =
    record { message_type = m.message_type; code = m.code; message_id = m.message_id; token = m.token; options = m.options; payload = [] }
