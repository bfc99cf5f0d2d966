use mathlib.Core.Path.{refl, sym, ◌∙◌}
use native.Mathlib.Omega.{arith}
use Rattle.block_state.proofs.Steps.{returned}
use Rattle.response_step.proofs.Steps.{chunked-small, chunked-first}
use Rattle.response_step.proofs.cache_response.Goals as goal

pub returns-then-piece-h : goal.returns-then-piece-h
returns-then-piece-h c = returned _ _ _ _ c.refused.ensures ∙ sym (chunked-small _ _ _ _ _ _ _ refl c.requires.3 (omega arith))

pub returns-then-piece-h-2 : goal.returns-then-piece-h-2
returns-then-piece-h-2 c = returned _ _ _ _ c.refused-then-piece-h-2.ensures ∙ sym (chunked-small _ _ _ _ _ _ _ refl c.requires.3 (omega arith))

pub returns : goal.returns
returns c =
    rw (c.answered.ensures, c.caching_state.ensures, c.cache_in.ensures)
    (sym (chunked-first _ _ _ _ _ _ _ refl c.requires.3 (omega arith)))
