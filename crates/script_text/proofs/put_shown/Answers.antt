use native.Mathlib.Omega.{arith}
use Rattle.pieces.proofs.Puts.{put_as}
use Rattle.script_text.proofs.Laws.{shown-none, shown-some}
use Rattle.script_text.proofs.put_shown.Goals as goal

pub returns-then-is_empty-clause-put : goal.returns-then-is_empty-clause-put
returns-then-is_empty-clause-put c = put_as c.put_byte.ensures (shown-none _ (grind arith))

pub returns-clause-put : goal.returns-clause-put
returns-clause-put c = put_as c.put_hex.ensures.put (shown-some _ (grind arith))
