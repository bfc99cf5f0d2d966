-- A call on an entry that is lent, by the same step as on a table by value.
use Rattle.std.specs.Prelude.{ℕ, Bool, cond, ◌&&◌, ◌≡◌, List, length, leb, ltb, eqb}
use Rattle.refusal.specs.declared.Refusal.TheVariants.{OffLimits}
use Rattle.config.specs.declared.Config.{Config}
use Rattle.block_state.specs.declared.Answer.{Answer}
use Rattle.block_state.specs.declared.Answer.TheVariants.{Refused}
use Rattle.block_state.specs.Message.{Request, Response}
use Rattle.block_state.specs.State.{state_ok}
use Rattle.block_state.specs.Step.{Left}
use Rattle.request_step.specs.Step.{step_request}
use Rattle.response_step.specs.Step.{step_response}
use Rattle.entries.specs.declared.Entry.{Entry}
use Rattle.entries.specs.Entries.{in_use}
use Rattle.replies.specs.declared.Reply.{Reply}
use Rattle.replies.specs.Reply.{reply_of}

-- What a call leaves of the entry and of its piece, and what it answers.
pub record Lent : Type 0 where
  pub entry : Entry
  pub piece : List ℕ
  pub answer : Answer

abbrev pub lent : Entry → List ℕ → Answer → Lent
lent e piece a = record { entry = e; piece = piece; answer = a }

-- The entry is in use, was not touched later, and its state is within the limits; the piece, of n bytes, is of this size, which is below 2 ^ 32.
-- The checks of a call are made by whoever lends the entry, and imply all that is asked here (`proofs/Same.antt`).
unfoldable pub usable : Config → ℕ → ℕ → Entry → ℕ → Bool
usable c size time e n = eqb n size && ltb n 4294967296 && e.used && leb e.touched time && state_ok c e.state

-- A request needs besides that no place in a memory overflows: its key's two pieces begin at `home` and `away`.
abbrev pub request_room : Config → ℕ → ℕ → ℕ → Entry → ℕ → Bool
request_room c home away time e n = usable c c.upload time e n && ltb home 4294967296 && ltb away 4294967296

-- A response: "The head of a response .. at most 128 bytes", here h.
abbrev pub response_room : Config → ℕ → Entry → ℕ → ℕ → Bool
response_room c time e n h = usable c c.response time e n && leb h 128

-- With room, the entry is touched, and keeps its key; its state and its piece are those that the step leaves. Else refusal 1, which "leaves everything".
unfoldable pub if_room : Bool → ℕ → Entry → List ℕ → Left → Lent
if_room room time e u g = cond room (lent (in_use e.key time g.state) g.piece g.answer) (lent e u (Refused OffLimits))

abbrev pub request_lent : Config → ℕ → ℕ → ℕ → Entry → List ℕ → Request → Lent
request_lent c home away time e u r = if_room (request_room c home away time e (length u)) time e u (step_request c home away e.state u r)

abbrev pub response_lent : Config → ℕ → Entry → List ℕ → Response → Lent
response_lent c time e d r = if_room (response_room c time e (length d) (length r.head)) time e d (step_response c e.state d r)

-- The contract of a lent call: the entry and the piece are left so, and the numbers are the answer's.
abbrev pub Leaves : Lent → Entry → List ℕ → Reply → Type 0
Leaves g e piece r = (e ≡ g.entry) × (piece ≡ g.piece) × (r ≡ reply_of g.answer)
