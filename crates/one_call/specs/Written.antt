-- WHAT IS ANSWERED, STRICT MODE WRITES WHOLE. Document 02: "a num up to 1,048,575, as RFC 7959 says, and is written so". Whatever Block1 or Block2 value a call answers, strict
-- mode's option of it is the RFC's shortest form, which holds that value and is read as it. (Plain mode's is not: a reply's num can pass 4095, and is written modulo 4096.)
use Rattle.std.specs.Prelude.{true, ◌≡◌, ◌⊎◌, Some}
use Rattle.config.specs.declared.Config.{Config}
use Rattle.block_value.specs.declared.BlockValue.{BlockValue}
use Rattle.block_option.specs.Option.{read_of, written}
use Rattle.block_option.specs.Rfc7959.{HoldsBlock, Fewest}
use Rattle.block_state.specs.Message.{OptionBytes, Request, Response, request, response}
use Rattle.apart.specs.Answers.{said}
use Rattle.call.specs.Call.{World, Call}
use Rattle.one_call.specs.Handler.{Handler}

abbrev pub WrittenWhole : BlockValue → Type 0
WrittenWhole b = HoldsBlock (written true b) b × Fewest (written true b) × (read_of true (written true b) ≡ Some b)

pub record StrictWritesWhole (h : Handler) : Type 0 where
  pub requests : (c : Config) (w : World) (q : Call) (r : Request) (b : BlockValue) → q.what ≡ request r → OptionBytes r.block2
      → ((said (h c w q).answer).block1 ≡ Some b) ⊎ ((said (h c w q).answer).block2 ≡ Some b) → WrittenWhole b
  -- (A response is never answered a Block1 value.)
  pub responses : (c : Config) (w : World) (q : Call) (r : Response) (b : BlockValue) → q.what ≡ response r
      → (said (h c w q).answer).block2 ≡ Some b → WrittenWhole b
