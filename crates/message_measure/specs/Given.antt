-- The message that the slices stand for, and whether it is taken.
use Rattle.std.specs.Prelude.{ℕ, ◌+◌, Bool, ◌&&◌, List, [], ◌∷◌, leb, eqb, length, take, drop}
use Rattle.message_format.specs.Format.{CoapOption, Message, bytes_of, encodable}

-- What the writer is given: the options as their numbers, the lengths of their values, and the values one after another.
pub record Given : Type 0 where
  pub message_type : ℕ
  pub code : ℕ
  pub message_id : ℕ
  pub token : List ℕ
  pub numbers : List ℕ
  pub lengths : List ℕ
  pub values : List ℕ
  pub payload : List ℕ

abbrev pub given : ℕ → ℕ → ℕ → List ℕ → List ℕ → List ℕ → List ℕ → List ℕ → Given
given message_type code message_id token numbers lengths values payload = record {
  message_type = message_type;
  code = code;
  message_id = message_id;
  token = token;
  numbers = numbers;
  lengths = lengths;
  values = values;
  payload = payload;
}

-- Each option has a number, and the next bytes of the values, as many as its length says. Numbers, lengths and values that do not go together are
-- ruled out by `describes`.
unfoldable pub options_from : List ℕ → List ℕ → List ℕ → List CoapOption
options_from [] lengths values = []
options_from (number ∷ numbers) [] values = []
options_from (number ∷ numbers) (n ∷ lengths) values =
    record { number = number; value = take n values } ∷ options_from numbers lengths (drop n values)

unfoldable pub total : List ℕ → ℕ
total [] = 0
total (n ∷ lengths) = n + total lengths

-- There are as many lengths as numbers, and as many bytes of values as the lengths add up to.
unfoldable pub describes : List ℕ → List ℕ → List ℕ → Bool
describes numbers lengths values = eqb (length numbers) (length lengths) && eqb (total lengths) (length values)

abbrev pub message_of : Given → Message
message_of g = record {
  message_type = g.message_type;
  code = g.code;
  message_id = g.message_id;
  token = g.token;
  options = options_from g.numbers g.lengths g.values;
  payload = g.payload;
}

-- "A message without an encoding that the reader takes .. or an output too small" is not taken.
unfoldable pub takes : ℕ → Given → Bool
takes room g =
    describes g.numbers g.lengths g.values && encodable (message_of g) && leb (length (bytes_of (message_of g))) room
