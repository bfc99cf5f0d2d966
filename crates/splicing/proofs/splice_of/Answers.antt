use Rattle.std.specs.Prelude.{Ok}
use mathlib.Core.Path.{sym, ap, ◌∙◌}
use native.Mathlib.Omega.{arith}
use Rattle.splicing.proofs.Splicing.{too_far, too_small, taken}
use Rattle.splicing.proofs.splice_of.Goals as goal

pub returns-then-reach-size : goal.returns-then-reach-size
returns-then-reach-size c = sym (too_far _ _ _ _ _ (omega arith))

pub returns-then-reach-size-2 : goal.returns-then-reach-size-2
returns-then-reach-size-2 c = sym (too_far _ _ _ _ _ (omega arith))

pub returns-then-room-kept : goal.returns-then-room-kept
returns-then-room-kept c = sym (too_small _ _ _ _ _ (omega arith) (omega arith))

pub returns-then-room-kept-2 : goal.returns-then-room-kept-2
returns-then-room-kept-2 c = sym (too_small _ _ _ _ _ (omega arith) (omega arith))

pub returns : goal.returns
returns c = ap Ok (omega arith) ∙ sym (taken _ _ _ _ _ (omega arith) (omega arith))
