-- What one call's step leaves of its key's state and piece, and what it answers; the steps are in `request_step` and `response_step`.
use Rattle.std.specs.Prelude.{ℕ, ◌+◌, List}
use Rattle.block_state.specs.declared.BlockState.{BlockState}
use Rattle.block_state.specs.declared.Part.{Part}
use Rattle.block_state.specs.declared.Stepped.{Stepped}
use Rattle.block_state.specs.declared.Answer.{Answer}

-- What a step leaves of the state and of its piece, and what it answers.
pub record Left : Type 0 where
  pub state : BlockState
  pub piece : List ℕ
  pub answer : Answer

abbrev pub left : BlockState → List ℕ → Answer → Left
left s piece a = record { state = s; piece = piece; answer = a }

-- The same without the piece, as the code returns it.
abbrev pub stepped : BlockState → Answer → Stepped
stepped s a = record { state = s; answer = a }

-- n bytes from index `at` on.
abbrev pub bytes_from : ℕ → ℕ → Part
bytes_from at n = record { from = at; to = at + n }
