-- What the reader, the writer and the table answer, in numbers, as it crosses to C.
use Rattle.std.specs.Prelude.{ℕ, List, ◌≡◌, length, Option, Some, None, Result, Ok, Err}
use Rattle.option_reader.specs.declared.Part.{Part}
use Rattle.message.specs.declared.Packet.{Packet}
use Rattle.message_format.specs.declared.Malformed.{Malformed}
use Rattle.message_format.specs.Format.{Next, malformed_number}
use Rattle.message_writer.specs.declared.NotWritten.{NotWritten}
use Rattle.option_reader.specs.Reader.{between}
use Rattle.message_measure.specs.Given.{Given}
use Rattle.message_writer.specs.Writer.{writing_of, output_of, refusal_number}
use Rattle.option_table.specs.declared.Length.{Length}
use Rattle.option_table.specs.declared.Length.TheVariants.{Unknown, Allowed, NotAllowed}
use Rattle.message_c.specs.declared.ReadMessage.{ReadMessage}
use Rattle.message_c.specs.declared.OptionAt.{OptionAt}
use Rattle.message_c.specs.declared.WrittenMessage.{WrittenMessage}

abbrev pub nowhere : Part
nowhere = between 0 0

-- The message's parts. Its bare length is where its options end.
abbrev pub packet_read : Packet → ReadMessage
packet_read p = record {
  refusal = 0;
  message_type = p.message_type;
  code = p.code;
  message_id = p.message_id;
  bare = p.options.to;
  token = p.token;
  options = p.options;
  payload = p.payload;
}

-- "Returns no part of it."
abbrev pub refused_read : ℕ → ReadMessage
refused_read n = record {
  refusal = n;
  message_type = 0;
  code = 0;
  message_id = 0;
  bare = 0;
  token = nowhere;
  options = nowhere;
  payload = nowhere;
}

-- "11, malformed message."
abbrev pub message_read : Result Packet Malformed → ReadMessage
message_read (Ok p) = packet_read p
message_read (Err malformed) = refused_read (malformed_number malformed)

-- An option and where its value stands; no option; and what is none and no end either.
abbrev pub option : ℕ → ℕ → ℕ → OptionAt
option number from to = record { kind = 1; number = number; value = between from to }

abbrev pub no_option : OptionAt
no_option = record { kind = 0; number = 0; value = nowhere }

abbrev pub malformed_option : OptionAt
malformed_option = record { kind = 2; number = 0; value = nowhere }

abbrev pub option_next : Next → OptionAt
option_next (Ok (Some o)) = option o.number o.from o.to
option_next (Ok None) = no_option
option_next (Err _) = malformed_option

abbrev pub option_found : ℕ → Option Part → OptionAt
option_found number (Some part) = option number part.from part.to
option_found number None = no_option

-- 21: no encoding, or an output too small.
abbrev pub message_written : Result ℕ NotWritten → WrittenMessage
message_written (Ok n) = record { refusal = 0; len = n }
message_written (Err not_written) = record { refusal = refusal_number not_written; len = 0 }

-- The writer's answer in numbers, and every byte of the output.
pub record WritesNumbers (out : List ℕ) (g : Given) (out' : List ℕ) (r : WrittenMessage) : Type 0 where
  pub answer : r ≡ message_written (writing_of (length out) g)
  pub output : out' ≡ output_of out g

abbrev pub length_number : Length → ℕ
length_number Unknown = 0
length_number Allowed = 1
length_number NotAllowed = 2
