use native.Mathlib.Omega.{arith}
use mathlib.Core.Path.{sym}
use Rattle.entries.proofs.Cases.{sized-used, sized-free}
use Rattle.entries.proofs.Held.{held-unused}
use Rattle.entries.proofs.entry_checked.Goals as goal

pub returns-then-e : goal.returns-then-e
returns-then-e c = (c.used_checked.ensures.0, c.used_checked.ensures.1, c.used_checked.ensures.2, sized-used _ c.if-e.true)

pub returns : goal.returns
returns c =
    let free = c.if-e.false in
    (c.free_ok.ensures.0, sym (held-unused _ free), omega arith, sized-free _ free c.free_ok.ensures.1)
