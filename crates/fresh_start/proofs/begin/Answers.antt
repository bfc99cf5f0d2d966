use native.Mathlib.Omega.{arith}
use Rattle.fresh_start.proofs.Fronts.{leaves-zeros}
use borrow.Author.Rules.{rules}
use Rattle.fresh_start.proofs.begin.Goals as goal

pub returns : goal.returns
returns c =
    leaves-zeros _ _ _ _ _ _ c.memory_of-u.ensures.0 c.memory_of-v.ensures.0 c.zero_fill.ensures c.zero_fill-2.ensures c.fresh-table.ensures
    c.put_config-at.ensures.put (omega (arith, c.put_config-at.ensures.upper_bound))
