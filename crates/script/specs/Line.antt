-- The grammar of a script line: `Q now key bare block1 block2 payload` or `P now key bare own head payload`.
use Rattle.std.specs.Prelude.{ℕ, ◌+◌, ◌*◌, ◌≤◌, ◌≡◌, Bool, true, false, cond, ◌&&◌, List, eqb, ltb, leb, length, get_or, take, drop, Option, Some, None, MatchOption}
use Rattle.script_cut.specs.Cut.{Bytes, fields, at, between}
use Rattle.script_fields.specs.Fields.{is_number, value, is_bytes, bytes_of, is_option, is_given, option_bytes}
use Rattle.script.specs.declared.Call.{Call}
use Rattle.script.specs.declared.Line.{Line}
use Rattle.script.specs.declared.Line.TheVariants as line

-- What a line says.
pub data Said : Type 0 where
  -- time, key, bare, block 1 given or not and its bytes, block 2 likewise, payload
  request : ℕ → Bytes → ℕ → Bool → Bytes → Bool → Bytes → Bytes → Said
  -- time, key, bare, own, head, payload
  response : ℕ → Bytes → ℕ → Bool → Bytes → Bytes → Said
  unreadable : Said

-- ---- what six fields say

-- What both kinds of line have: a time, a key, a bare length and a payload.
unfoldable pub is_call : List Bytes → Bool
is_call fs = is_number (at fs 0) && (is_number (at fs 2) && (is_bytes (at fs 1) && is_bytes (at fs 5)))

unfoldable pub request_of : List Bytes → Said
request_of fs =
    cond (is_call fs && (is_option (at fs 3) && is_option (at fs 4)))
    (request (value (at fs 0)) (bytes_of (at fs 1)) (value (at fs 2)) (is_given (at fs 3)) (option_bytes (at fs 3)) (is_given (at fs 4))
    (option_bytes (at fs 4)) (bytes_of (at fs 5)))
    unreadable

-- Own is 0 or 1.
unfoldable pub response_of : List Bytes → Said
response_of fs =
    cond (is_call fs && (is_number (at fs 3) && (leb (value (at fs 3)) 1 && is_bytes (at fs 4))))
    (response (value (at fs 0)) (bytes_of (at fs 1)) (value (at fs 2)) (eqb (value (at fs 3)) 1) (bytes_of (at fs 4)) (bytes_of (at fs 5)))
    unreadable

-- Six fields handed to a rule; any other number of them is unreadable.
unfoldable pub six : (List Bytes → Said) → List Bytes → Said
six rule fs = cond (eqb (length fs) 6) (rule fs) unreadable

-- ---- a line: Q or P, a space, and six fields

unfoldable pub kind_of : ℕ → Bytes → Said
kind_of kind rest = cond (eqb kind 81) (six request_of (fields rest)) (cond (eqb kind 80) (six response_of (fields rest)) unreadable)

unfoldable pub line_of : Bytes → Said
line_of l = cond (ltb (length l) 2) unreadable (cond (eqb (get_or l 1 0) 32) (kind_of (get_or l 0 0) (drop 2 l)) unreadable)

-- ---- what the reader's answer says, with the buffer

-- What both kinds have is read: the key stands first in the buffer, then the payload.
pub record CallIs (c : Call) (fs : List Bytes) (m : Bytes) : Type 0 where
  pub good : is_call fs ≡ true
  pub time : c.time ≡ value (at fs 0)
  pub bare : c.bare ≡ value (at fs 2)
  pub key : take c.key m ≡ bytes_of (at fs 1)
  pub payload : between m c.key c.payload ≡ bytes_of (at fs 5)
  pub order : c.key ≤ c.payload
  pub within : c.payload ≤ length m
  pub half : 2 * c.payload ≤ length (at fs 1) + length (at fs 5)

abbrev pub CallRead : Option Call → List Bytes → Bytes → Type 0
CallRead r fs m = MatchOption r (is_call fs ≡ false) (λ c. CallIs c fs m)

-- Behind the payload stand block 1 and block 2, or the head.
abbrev pub said_by : Option Line → Bytes → Said
said_by (Some (line.Request r)) m =
    request r.call.time (take r.call.key m) r.call.bare r.given1 (between m r.call.payload r.block1) r.given2
    (between m r.block1 r.block2) (between m r.call.key r.call.payload)
said_by (Some (line.Response r)) m =
    response r.call.time (take r.call.key m) r.call.bare r.own (between m r.call.payload r.head)
    (between m r.call.key r.call.payload)
said_by None m = unreadable

-- The parts that the answer names follow each other within the buffer.
abbrev pub InBuffer : Option Line → Bytes → Type 0
InBuffer (Some (line.Request r)) m = (r.call.key ≤ r.call.payload) × (r.call.payload ≤ r.block1) × (r.block1 ≤ r.block2) × (r.block2 ≤ length m)
InBuffer (Some (line.Response r)) m = (r.call.key ≤ r.call.payload) × (r.call.payload ≤ r.head) × (r.head ≤ length m)
InBuffer None m = Unit {0}
