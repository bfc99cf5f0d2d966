use mathlib.Core.Path.{sym, ◌∙◌}
use native.Mathlib.Omega.{arith}
use Rattle.chunks.proofs.Laws.{chunk-within}
use Rattle.block_state.proofs.Steps.{returned}
use Rattle.request_block2.proofs.Serving.{served-refused, served-chunk}
use Rattle.request_block2.proofs.serve_cached_response.Goals as goal

pub overflow_add-part : goal.overflow_add-part
overflow_add-part c = omega (arith, chunk-within _ _ _ _ _ (sym c.chunk_of.ensures ∙ c.in-Ok.is))

pub overflow_add-part-2 : goal.overflow_add-part-2
overflow_add-part-2 c = omega (arith, chunk-within _ _ _ _ _ (sym c.chunk_of.ensures ∙ c.in-Ok.is))

pub returns-in-Err : goal.returns-in-Err
returns-in-Err c = λ u. returned _ _ u _ c.refused.ensures ∙ sym (served-refused _ _ u _ _ _ (sym c.chunk_of.ensures ∙ c.in-Err.is))

pub returns : goal.returns
returns c =
    λ u.
    rw (c.answered.ensures, c.with_cached-next.ensures, c.kept_while.ensures, c.from.ensures)
    (sym (served-chunk _ _ u _ _ _ (sym c.chunk_of.ensures ∙ c.in-Ok.is)))
