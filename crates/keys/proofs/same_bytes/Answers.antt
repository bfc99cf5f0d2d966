use mathlib.Core.Path.{◌∙◌}
use Rattle.keys.proofs.Keys.{same-pairs}
use Rattle.keys.proofs.same_bytes.Goals as goal

pub returns : goal.returns
returns c = c.eq.ensures ∙ same-pairs _ _
