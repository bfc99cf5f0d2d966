use mathlib.Core.Path.{sym, ◌∙◌}
use Rattle.block_state.proofs.Steps.{returned}
use Rattle.response_step.proofs.Steps.{chunked-refused, chunked-whole}
use Rattle.response_step.proofs.serve_response.Goals as goal

pub returns-in-Err : goal.returns-in-Err
returns-in-Err c = returned _ _ _ _ c.refused.ensures ∙ sym (chunked-refused _ _ _ _ _ _ _ (sym c.chunk_of.ensures ∙ c.in-Err.is))

pub returns : goal.returns
returns c = returned _ _ _ _ c.answered.ensures ∙ sym (chunked-whole _ _ _ _ _ _ _ (sym c.chunk_of.ensures ∙ c.in-Ok.is) c.if-chunk.false)
