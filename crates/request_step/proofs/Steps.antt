-- The laws of a request's step, a law for each branch: what the code's answers come to. Assumes nothing.
use Rattle.std.specs.Prelude.{Option, Some, None, Result, Ok, Err}
use Prim.Native.Nat.{ℕ}
use mathlib.Core.Path.{◌≡◌, sym, ◌∙◌}
use mathlib.Core.List.{List}
use lib.ListN.{length}
use Rattle.refusal.specs.declared.Refusal.{Refusal}
use Rattle.config.specs.declared.Config.{Config}
use Rattle.block_value.specs.declared.BlockValue.{BlockValue}
use Rattle.block_state.specs.declared.BlockState.{BlockState}
use Rattle.block_state.specs.declared.RequestNumbers.{RequestNumbers}
use Rattle.block_state.specs.declared.Answer.{Answer}
use Rattle.block_state.specs.declared.Answer.TheVariants.{TooLarge, Pass, Refused}
use Rattle.block_state.specs.Contract.{asking}
use Rattle.block_state.specs.Step.{left}
use Rattle.request_step.specs.declared.Asked.{Asked}
use Rattle.request_block1.specs.declared.Taken.{Taken}
use Rattle.request_block1.specs.Block1.{taken, piece_taken}
use Rattle.request_block2.specs.Block2.{onward}
use Rattle.request_step.specs.Step.{on_taken, block1_given, on_negotiated, step_with, step_request, asked_by}

module _ (c : Config) (home at : ℕ) (s : BlockState) (u : List ℕ) (block2 : Option BlockValue) (payload : List ℕ) (block1 : Option BlockValue) (reply : Result (Option BlockValue) Refusal) where
  pub step-refused : (n : Refusal) → reply ≡ Err n → on_negotiated c home at s u block2 payload block1 reply ≡ left s u (Refused n)
  unfolding on_negotiated
  step-refused n h = rw h

  pub step-plain : reply ≡ Ok None → on_negotiated c home at s u block2 payload block1 reply ≡ onward at s u block2 None Pass
  unfolding on_negotiated
  step-plain h = rw h

  module _ (b : BlockValue) (h : reply ≡ Ok (Some b)) where
    pub step-large : block1 ≡ None → on_negotiated c home at s u block2 payload block1 reply ≡ left s u (TooLarge b)
    unfolding on_negotiated
    step-large k = rw (h, k)

    -- a block that is given, by what taking it came to
    pub step_given : (x : BlockValue) (t : Result Taken Refusal) → block1 ≡ Some x → t ≡ taken c s.assembled x (length payload)
        → on_negotiated c home at s u block2 payload block1 reply
        ≡ on_taken home at s (piece_taken c s.assembled u x payload t) block2 x.size_exponent b t
    unfolding on_negotiated block1_given
    step_given x t k e = rw (h, k, e)

    -- going on with the block's own exponent comes to that step
    pub step_went : (next : BlockState) (a : Answer) (v : List ℕ) (x : BlockValue) (t : Result Taken Refusal) (exponent : ℕ)
        → ((u : List ℕ) → left next u a ≡ on_taken home at s u block2 exponent b t) → exponent ≡ x.size_exponent → v ≡ piece_taken c s.assembled u x payload t
        → block1 ≡ Some x → t ≡ taken c s.assembled x (length payload) → left next v a ≡ on_negotiated c home at s u block2 payload block1 reply
    step_went next a v x t exponent went its piece k e = went v ∙ rw (piece, its) (sym (step_given x t k e))

-- a step with the options read is the request's
pub step-read : (c : Config) (home at : ℕ) (s : BlockState) (u : List ℕ) (q : RequestNumbers) (option1 option2 payload : List ℕ) (a : Asked)
    → a ≡ asked_by c q option1 option2
    → step_with c home at s u a.bare a.block1 a.block2 payload ≡ step_request c home at s u (asking q option1 option2 payload)
unfolding step_request
step-read c home at s u q option1 option2 payload a e = rw e
