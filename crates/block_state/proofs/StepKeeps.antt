-- What a step is to leave: its state within the limits, and its piece as long as it was. Assumes nothing.
use Prim.Native.Nat.{ℕ}
use mathlib.Core.Path.{◌≡◌}
use mathlib.Core.List.{List}
use lib.ListN.{length}
use Rattle.config.specs.declared.Config.{Config}
use Rattle.block_state.specs.declared.BlockState.{BlockState}
use Rattle.block_state.specs.declared.Answer.{Answer}
use Rattle.block_state.specs.Step.{Left, left}
use Rattle.block_state.proofs.Fits.{StateFits}

pub record Keeps (c : Config) (n : ℕ) (g : Left) : Type 0 where
  pub state : StateFits c g.state
  pub piece : length g.piece ≡ n

pub as_it_was : (c : Config) (n : ℕ) (s : BlockState) (piece : List ℕ) (a : Answer) → StateFits c s → length piece ≡ n → Keeps c n (left s piece a)
as_it_was c n s piece a f h = record { state = f; piece = h }
