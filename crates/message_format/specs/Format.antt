-- RFC 7252's message on lists of bytes, apart from any code: the bytes of a message, and what bytes mean.
use Rattle.std.specs.Prelude.{ℕ, zero, suc, ◌+◌, ◌-◌, ◌*◌, ◌/◌, ◌%◌, ◌<◌, Bool, true, cond, ◌&&◌, List, [], ◌∷◌, ◌++◌, leb, ltb, eqb, length, take, drop, get_or}
use Rattle.std.specs.Prelude.{Option, Some, None, Result, Ok, Err}
use Rattle.message_format.specs.declared.OptionPlace.{OptionPlace}
use Rattle.message_format.specs.declared.Malformed.{Malformed}

pub record CoapOption : Type 0 where
  pub number : ℕ
  pub value : List ℕ

-- Its type is 0 for CON, 1 for NON, 2 for ACK and 3 for RST. Its code is the class times 32, and the detail. No payload is an empty one.
pub record Message : Type 0 where
  pub message_type : ℕ
  pub code : ℕ
  pub message_id : ℕ
  pub token : List ℕ
  pub options : List CoapOption
  pub payload : List ℕ

abbrev pub Bytes : List ℕ → Type 0
Bytes bytes = (i : ℕ) → get_or bytes i 0 < 256

-- ---- the bytes of a message

-- "A nibble to 12 is itself; 13 has one more byte, value + 13; 14 has two more bytes, big-endian, value + 269": the nibble of a delta or a
-- length, and the bytes that extend it.
unfoldable pub nibble_of : ℕ → ℕ
nibble_of n = cond (ltb n 13) n (cond (ltb n 269) 13 14)

unfoldable pub extension : ℕ → List ℕ
extension n = cond (ltb n 13) [] (cond (ltb n 269) ((n - 13) ∷ []) (((n - 269) / 256) ∷ ((n - 269) % 256) ∷ []))

-- "A byte with delta (high nibble) and length (low nibble), the extended delta, the extended length."
unfoldable pub option_head : ℕ → ℕ → List ℕ
option_head delta len = (nibble_of delta * 16 + nibble_of len) ∷ (extension delta ++ extension len)

-- ".. the value." The delta counts from the number of the option before, the first from 0.
abbrev pub option_bytes : ℕ → CoapOption → List ℕ
option_bytes before o = option_head (o.number - before) (length o.value) ++ o.value

unfoldable pub options_bytes : ℕ → List CoapOption → List ℕ
options_bytes before [] = []
options_bytes before (o ∷ options) = option_bytes before o ++ options_bytes o.number options

-- "After a byte 0xFF, the payload. .. No marker: an empty payload."
unfoldable pub payload_bytes : List ℕ → List ℕ
payload_bytes [] = []
payload_bytes (b ∷ payload) = 255 ∷ b ∷ payload

-- "Version (2 bits, always 1), type (2 bits: ..), token length (4 bits, ..)", the code, and the message ID, big-endian.
unfoldable pub head_bytes : ℕ → ℕ → ℕ → ℕ → List ℕ
head_bytes message_type code message_id token_length = (64 + message_type * 16 + token_length) ∷ code ∷ (message_id / 256) ∷ (message_id % 256) ∷ []

-- "Then the token, the options, and .. the payload."
unfoldable pub bytes_of : Message → List ℕ
bytes_of m =
    head_bytes m.message_type m.code m.message_id (length m.token) ++ (m.token ++ (options_bytes 0 m.options ++ payload_bytes m.payload))

-- Numbers never fall and are at most 65,535; "269 to 65,804" is the last range of a length.
unfoldable pub options_ok : ℕ → List CoapOption → Bool
options_ok before [] = true
options_ok before (o ∷ options) =
    leb before o.number && leb o.number 65535 && leb (length o.value) 65804 && options_ok o.number options

-- "A code of 0.00 (empty) has token length 0 and nothing after the message ID."
unfoldable pub empty_ok : Message → Bool
empty_ok m = cond (eqb m.code 0) (eqb (length m.token + length m.options + length m.payload) 0) true

-- The message has an encoding, if its token, values and payload are bytes.
unfoldable pub encodable : Message → Bool
encodable m =
    leb m.message_type 3 && leb m.code 255 && leb m.message_id 65535 && leb (length m.token) 8 && options_ok 0 m.options && empty_ok m

-- ---- what bytes mean

-- How many bytes extend a nibble, and the number that the nibble and these bytes stand for (a byte that is not there counts as 0).
unfoldable pub extras : ℕ → ℕ
extras nibble = cond (eqb nibble 13) 1 (cond (eqb nibble 14) 2 0)

unfoldable pub extended : ℕ → List ℕ → ℕ
extended nibble bytes =
    cond (eqb nibble 13) (get_or bytes 0 0 + 13) (cond (eqb nibble 14) (get_or bytes 0 0 * 256 + get_or bytes 1 0 + 269) nibble)

-- Where the value of an option starts and ends, counted from the option's first byte: for the nibbles of its delta and its length, and the bytes
-- after them.
abbrev pub value_from : ℕ → ℕ → ℕ
value_from delta_nibble len_nibble = 1 + extras delta_nibble + extras len_nibble

abbrev pub value_to : ℕ → ℕ → List ℕ → ℕ
value_to delta_nibble len_nibble rest = value_from delta_nibble len_nibble + extended len_nibble (drop (extras delta_nibble) rest)

-- What stands where an option may begin: an option and where its value stands, the end of the options, or neither.
abbrev pub Next : Type 0
Next = Result (Option OptionPlace) Malformed

abbrev pub placed : ℕ → ℕ → ℕ → OptionPlace
placed number from to = record { number = number; from = from; to = to }

abbrev pub an_option : ℕ → ℕ → ℕ → Next
an_option number from to = Ok (Some (placed number from to))

abbrev pub no_more : Next
no_more = Ok None

abbrev pub no_form : Next
no_form = Err (record {})

-- Document 02's number of it: "11, malformed message or an option number above 65,535".
abbrev pub malformed_number : Malformed → ℕ
malformed_number _ = 11

-- "15 is reserved: as the byte 0xFF it is the payload marker, else a format error." So is an option or an extension past the end, or a number above
-- 65,535.
unfoldable pub option_in : ℕ → ℕ → ℕ → List ℕ → Next
option_in before delta_nibble len_nibble rest =
    cond (ltb 14 delta_nibble) no_form
    (cond (ltb 14 len_nibble) no_form
    (cond (ltb (1 + length rest) (value_to delta_nibble len_nibble rest)) no_form
    (cond (ltb 65535 (before + extended delta_nibble rest)) no_form
    (an_option (before + extended delta_nibble rest) (value_from delta_nibble len_nibble) (value_to delta_nibble len_nibble rest)))))

-- "A payload marker with no byte after it is a format error."
unfoldable pub marked : List ℕ → Next
marked [] = no_form
marked (b ∷ payload) = no_more

-- What stands where an option may begin: an option, after one of the number `before`, the end of the options, or neither.
unfoldable pub next_in : ℕ → List ℕ → Next
next_in before [] = no_more
next_in before (b ∷ rest) = cond (eqb b 255) (marked rest) (option_in before (b / 16) (b % 16) rest)

-- All options, and the bytes that are left where they end: none, or the payload with its marker.
pub data Options : Type 0 where
  broken : Options
  options : List CoapOption → List ℕ → Options

abbrev pub with_option : ℕ → List ℕ → Options → Options
with_option number value broken = broken
with_option number value (options list left) = options (record { number = number; value = value } ∷ list) left

abbrev pub on_next : List ℕ → (ℕ → List ℕ → Options) → Next → Options
on_next bytes more (Ok (Some o)) = with_option o.number (take (o.to - o.from) (drop o.from bytes)) (more o.number (drop o.to bytes))
on_next bytes more (Ok None) = options [] bytes
on_next bytes more (Err _) = broken

-- "Options are taken one by one until the payload marker or the end": fewer than the first number says.
unfoldable pub options_in : ℕ → ℕ → List ℕ → Options
options_in zero before bytes = broken
options_in (suc most) before bytes = on_next bytes (λ number rest. options_in most number rest) (next_in before bytes)

-- An option takes a byte at least, so the first number never runs out.
abbrev pub options_of : ℕ → List ℕ → Options
options_of before bytes = options_in (suc (length bytes)) before bytes

pub data Meaning : Type 0 where
  malformed : Meaning
  means : Message → Meaning

-- The first byte and the code, before n more bytes: version 1; a token of at most 8 bytes that is there; nothing after an empty message's ID.
unfoldable pub head_ok : ℕ → ℕ → ℕ → Bool
head_ok first code n = eqb (first / 64) 1 && leb (first % 16) 8 && leb (first % 16) n && cond (eqb code 0) (eqb n 0) true

abbrev pub meaning_with : ℕ → ℕ → ℕ → List ℕ → Options → Meaning
meaning_with first code id rest broken = malformed
meaning_with first code id rest (options list left) =
    means (record {
      message_type = first / 16 % 4;
      code = code;
      message_id = id;
      token = take (first % 16) rest;
      options = list;
      payload = drop 1 left;
    })

unfoldable pub meaning_of : List ℕ → Meaning
meaning_of [] = malformed
meaning_of (first ∷ []) = malformed
meaning_of (first ∷ code ∷ []) = malformed
meaning_of (first ∷ code ∷ high ∷ []) = malformed
meaning_of (first ∷ code ∷ high ∷ low ∷ rest) =
    cond (head_ok first code (length rest)) (meaning_with first code (high * 256 + low) rest (options_of 0 (drop (first % 16) rest))) malformed
