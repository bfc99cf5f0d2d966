use Rattle.std.proofs.Common.{◌∙◌, refl, arith}
use Rattle.entries.specs.Entries.{sweep}
use Rattle.entries.proofs.Turns.{nil}
use Rattle.lent.proofs.Sweeps.{walk-goes, walk-ends, place-held, place-free}
use Rattle.lent.proofs.block_handler_find_and_free.Goals as goal

pub loop-i-init : goal.loop-i-init
loop-i-init c = record { row = refl; found = omega arith; free = omega arith }

pub loop-i-preserved : goal.loop-i-preserved
loop-i-preserved c = walk-goes _ _ _ _ _ _ _ nil _ (omega arith) c.loop-i.invariant c.swept_entry.ensures c.see-seen.ensures

pub returns-then-found-lt16 : goal.returns-then-found-lt16
unfolding sweep
returns-then-found-lt16 c =
    let end = walk-ends _ _ _ _ _ _ (omega arith) c.loop-i.invariant in
    (end.0, place-held _ _ _ (c.unwrap_or-found.ensures ∙ end.1) c.if-found-lt16.true)

pub returns : goal.returns
unfolding sweep
returns c =
    let end = walk-ends _ _ _ _ _ _ (omega arith) c.loop-i.invariant in
    (end.0, place-free _ _ _ (c.unwrap_or-found.ensures ∙ end.1) c.if-found-lt16.false _ (c.unwrap_or.ensures ∙ end.2))
