-- How the code's parameters make a message, and what a request's step asks of its caller.
use Rattle.std.specs.Prelude.{ℕ, ◌^◌, ◌≤◌, ◌<◌, ◌≡◌, List}
use Rattle.negotiation.specs.Negotiation.{option_of}
use Rattle.config.specs.declared.Config.{Config}
use Rattle.block_state.specs.declared.BlockState.{BlockState}
use Rattle.block_state.specs.declared.RequestNumbers.{RequestNumbers}
use Rattle.block_state.specs.declared.ResponseNumbers.{ResponseNumbers}
use Rattle.block_state.specs.Message.{Request, Response}

abbrev pub asking : RequestNumbers → List ℕ → List ℕ → List ℕ → Request
asking q option1 option2 payload =
    record { bare = q.bare; block1 = option_of q.given1 option1; block2 = option_of q.given2 option2; payload = payload }

abbrev pub replying : ResponseNumbers → List ℕ → List ℕ → Response
replying q head payload = record { bare = q.bare; own = q.own; head = head; payload = payload }

-- The piece is of the configuration's size and holds what is assembled, and no place in a memory overflows.
pub record Room (c : Config) (at_home at_away : ℕ) (s : BlockState) (n : ℕ) : Type 0 where
  pub size : n ≡ c.upload
  pub small : n < 2 ^ 32
  pub holds : s.assembled.len ≤ n
  pub home : at_home < 2 ^ 32
  pub away : at_away < 2 ^ 32
