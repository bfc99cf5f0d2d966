-- What the code of a step returns. Assumes nothing.
use Prim.Native.Nat.{ℕ}
use mathlib.Core.Path.{◌≡◌, ap}
use mathlib.Core.List.{List}
use Rattle.block_state.specs.declared.BlockState.{BlockState}
use Rattle.block_state.specs.declared.Stepped.{Stepped}
use Rattle.block_state.specs.declared.Answer.{Answer}
use Rattle.block_state.specs.Step.{left, stepped}

-- what the code returns, beside the piece that it leaves
pub returned : (r : Stepped) (s : BlockState) (u : List ℕ) (a : Answer) → r ≡ stepped s a → left r.state u r.answer ≡ left s u a
returned r s u a e = ap (λ (x : Stepped). left x.state u x.answer) e
