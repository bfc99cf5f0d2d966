-- What the writer makes of what it is given.
use Rattle.std.specs.Prelude.{ℕ, cond, List, [], ◌∷◌, ◌++◌, ◌≡◌, length, Result, Ok, Err}
use Rattle.pieces.specs.Memory.{patch}
use Rattle.message_format.specs.Format.{CoapOption, Message, head_bytes, bytes_of}
use Rattle.message_measure.specs.Given.{Given, given, message_of, takes}
use Rattle.message_writer.specs.declared.NotWritten.{NotWritten}

-- Document 02's number of it: "21, from the writer".
abbrev pub refusal_number : NotWritten → ℕ
refusal_number _ = 21

abbrev pub writing_of : ℕ → Given → Result ℕ NotWritten
writing_of room g = cond (takes room g) (Ok (length (bytes_of (message_of g)))) (Err (record {}))

-- The output begins with the message's bytes, and is otherwise as it was; refused, it is untouched.
abbrev pub output_of : List ℕ → Given → List ℕ
output_of out g = cond (takes (length out) g) (patch out 0 (bytes_of (message_of g))) out

pub record Writes (out : List ℕ) (g : Given) (out' : List ℕ) (r : Result ℕ NotWritten) : Type 0 where
  pub answer : r ≡ writing_of (length out) g
  pub output : out' ≡ output_of out g

-- The first bytes: the head, and the token.
unfoldable pub opening : ℕ → ℕ → ℕ → List ℕ → List ℕ
opening message_type code message_id token = head_bytes message_type code message_id (length token) ++ token

-- What the writer is given for a message.
unfoldable pub numbers_of : List CoapOption → List ℕ
numbers_of [] = []
numbers_of (o ∷ options) = o.number ∷ numbers_of options

unfoldable pub lengths_of : List CoapOption → List ℕ
lengths_of [] = []
lengths_of (o ∷ options) = length o.value ∷ lengths_of options

unfoldable pub values_of : List CoapOption → List ℕ
values_of [] = []
values_of (o ∷ options) = o.value ++ values_of options

abbrev pub given_of : Message → Given
given_of m =
    given m.message_type m.code m.message_id m.token
    (numbers_of m.options) (lengths_of m.options) (values_of m.options) m.payload
