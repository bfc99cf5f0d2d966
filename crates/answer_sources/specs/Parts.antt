-- The bytes that an answer shows: the message's own payload, or a part of a lent memory. Never a copy.
use Rattle.std.specs.Prelude.{ℕ, Bool, cond, ◌||◌, List, [], eqb}
use Rattle.pieces.specs.Memory.{within}
use Rattle.block_state.specs.declared.Part.{Part}
use Rattle.block_state.specs.declared.Kind.{Kind}
use Rattle.block_state.specs.declared.Answer.{Answer}
use Rattle.apart.specs.Answers.{handed, pass, served, plain, whole, first, kind_number, said}
use Rattle.answer_sources.specs.declared.Source.{Source}
use Rattle.answer_sources.specs.declared.Source.TheVariants.{Nothing, Message, Within}

-- The number of this answer, and whether a number is of this kind.
abbrev pub number_of : Answer → ℕ
number_of a = kind_number (said a).kind

abbrev pub is : Kind → ℕ → Bool
is k n = eqb n (kind_number k)

-- ---- What an answer of number n shows, whose part or head is p

abbrev pub source_if : Bool → Part → Source
source_if shown p = cond shown (Within p) Nothing

-- "The body the application sees is a part of the message's own payload or of the upload memory."
abbrev pub body_source : ℕ → Part → Source
body_source n p = cond (is pass n) Message (source_if (is handed n) p)

-- "A served chunk is a part of the cached response's memory", and so is its head.
abbrev pub served_source : ℕ → Part → Source
served_source n p = source_if (is served n) p

-- "The chunk [of First and Whole] is a part of the response's own payload."
abbrev pub sent_source : ℕ → Part → Source
sent_source n p = cond (is plain n) Message (source_if (is whole n || is first n) p)

-- ---- Its bytes

-- "An empty part if the answer .. names a part that isn't there."
abbrev pub part_of : List ℕ → Part → List ℕ
part_of m p = within m p.from p.to

-- "An empty part if the answer has none."
abbrev pub bytes_of : Source → List ℕ → List ℕ → List ℕ
bytes_of Nothing message memory = []
bytes_of Message message memory = message
bytes_of (Within p) message memory = part_of memory p

abbrev pub body_of : Answer → List ℕ → List ℕ → List ℕ
body_of a payload upload = bytes_of (body_source (number_of a) (said a).part) payload upload

abbrev pub served_head : Answer → List ℕ → List ℕ
served_head a response = bytes_of (served_source (number_of a) (said a).head) response response

abbrev pub served_chunk : Answer → List ℕ → List ℕ
served_chunk a response = bytes_of (served_source (number_of a) (said a).part) response response

abbrev pub sent_bytes : Answer → List ℕ → List ℕ
sent_bytes a payload = bytes_of (sent_source (number_of a) (said a).part) payload payload
