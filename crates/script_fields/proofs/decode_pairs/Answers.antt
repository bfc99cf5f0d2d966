use mathlib.Core.Path.{refl, sym}
use Prim.Native.Nat.{◌/◌}
use lib.ListN.{length}
use native.Mathlib.Omega.{arith}
use Rattle.script_fields.proofs.Pairs.{odd, bad-high, bad-low, paired-turn, paired-done}
use Rattle.script_fields.proofs.decode_pairs.Goals as goal

pub returns-then-text-eq1-clause-value : goal.returns-then-text-eq1-clause-value
returns-then-text-eq1-clause-value c = sym (odd _ c.if-text-eq1.true)

pub returns-in_err-high-clause-value : goal.returns-in_err-high-clause-value
returns-in_err-high-clause-value c = rw c.from_residual.ensures (sym (bad-high _ _ _ _ c.loop-k.invariant (omega arith) (sym c.in_err-high.ensures.value)))

pub returns-in_err-low-clause-value : goal.returns-in_err-low-clause-value
returns-in_err-low-clause-value c = rw c.from_residual-in_err-low.ensures (sym (bad-low _ _ _ _ c.loop-k.invariant (omega arith) (sym c.in_err-low.ensures.value)))

pub loop-k-preserved : goal.loop-k-preserved
loop-k-preserved c =
    paired-turn _ _ _ _ c.loop-k.invariant (omega arith) _ _ _ (sym c.in_ok-high.ensures.value) (sym c.in_ok-low.ensures.value) refl
    (omega (arith, c.loop-k.invariant.same))

pub returns : goal.returns
returns c =
    let d = paired-done _ _ _ _ (length c.args.text.now / 2) c.loop-k.invariant (omega arith) (omega arith) c.requires in
    record { value = sym d.0; filled = d.1 }
