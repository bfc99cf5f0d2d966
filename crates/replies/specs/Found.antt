-- Where the bytes stand that an answer shows, by numbers: no reference can cross to C.
use Rattle.std.specs.Prelude.{ℕ, ◌-◌, cond, ◌&&◌, List, [], leb, eqb}
use Rattle.pieces.specs.Memory.{part}
use Rattle.answer_sources.specs.declared.Source.{Source}
use Rattle.answer_sources.specs.declared.Source.TheVariants.{Nothing, Message, Within}
use Rattle.answer_sources.specs.Parts.{body_source, served_source, sent_source}
use Rattle.replies.specs.declared.Found.{Found}
use Rattle.replies.specs.declared.Reply.{Reply}

abbrev pub found : ℕ → ℕ → ℕ → Found
found place from to = record { place = place; from = from; to = to }

-- Of a payload and a memory of these lengths. "An empty part if the answer has none or names a part that isn't there."
unfoldable pub found_in : Source → ℕ → ℕ → Found
found_in Nothing message memory = found 0 0 0
found_in Message message memory = found 1 0 message
found_in (Within p) message memory = cond (leb p.from p.to && leb p.to memory) (found 2 p.from p.to) (found 0 0 0)

-- The bytes there, as a caller takes them.
unfoldable pub bytes_at : Found → List ℕ → List ℕ → List ℕ
bytes_at f message memory =
    cond (eqb f.place 1) (part message f.from (f.to - f.from))
    (cond (eqb f.place 2) (part memory f.from (f.to - f.from)) [])

-- ---- What the numbers of an answer show, as `body_of` and the others of answer_sources say it

abbrev pub body_in : Reply → Source
body_in r = body_source r.kind r.part

abbrev pub served_head_in : Reply → Source
served_head_in r = served_source r.kind r.head

abbrev pub chunk_in : Reply → Source
chunk_in r = served_source r.kind r.part

abbrev pub sent_in : Reply → Source
sent_in r = sent_source r.kind r.part
