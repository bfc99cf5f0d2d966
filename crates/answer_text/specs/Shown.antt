-- What an answer shows in a script's output.
use Rattle.std.specs.Prelude.{ℕ, List}
use Rattle.block_state.specs.declared.Kind.{Kind}
use Rattle.block_state.specs.declared.Kind.TheVariants.{Continue, TooLarge, Handed, Pass, Served, Plain, Whole, First, Refused}
use Rattle.block_state.specs.declared.Part.{Part}
use Rattle.block_state.specs.declared.Answer.{Answer}
use Rattle.apart.specs.Answers.{said}
use Rattle.answer_sources.specs.Parts.{part_of}

-- Of an answer of this kind, whose part is p: the payload of Pass, else its part of the upload memory for Handed, of the response memory for Served, and of the
-- payload for Whole and First. The others name the part from 0 to 0, which is empty.
abbrev pub shown_by : Kind → Part → List ℕ → List ℕ → List ℕ → List ℕ
shown_by Pass p payload upload away = payload
shown_by Handed p payload upload away = part_of upload p
shown_by Served p payload upload away = part_of away p
shown_by Whole p payload upload away = part_of payload p
shown_by First p payload upload away = part_of payload p
shown_by Continue p payload upload away = part_of payload p
shown_by TooLarge p payload upload away = part_of payload p
shown_by Plain p payload upload away = part_of payload p
shown_by Refused p payload upload away = part_of payload p

abbrev pub shown_of : Answer → List ℕ → List ℕ → List ℕ → List ℕ
shown_of a payload upload away = shown_by (said a).kind (said a).part payload upload away
