use mathlib.Core.Path.{◌≡◌, ap, ◌∙◌}
use Prim.Native.Nat.{ℕ}
use native.Mathlib.Omega.{arith}
use Rattle.std.specs.Prelude.{Ok}
use Rattle.option_reader.proofs.Laws.{found-bounds, found_none, found_here, found-later, found-other}
use Rattle.option_reader.proofs.nth_option.Goals as goal

pub returns-in_default : goal.returns-in_default
returns-in_default c =
    found_none _ _ _ _ c.loop-option.left _ c.next_option.ensures (λ number from to e. let z : ◌≡◌ {A = ℕ} 0 1 = cc in omega arith)
    ∙ c.loop-option.invariant

pub returns-in_default-2 : goal.returns-in_default-2
returns-in_default-2 c =
    found_none _ _ _ _ c.loop-option.left _ c.next_option.ensures (λ number from to e. let z : ◌≡◌ {A = ℕ} 0 1 = cc in omega arith)
    ∙ c.loop-option.invariant

pub returns-then-left-eq0 : goal.returns-then-left-eq0
returns-then-left-eq0 c =
    found_here _ _ _ _ _ _ c.next_option.ensures _ _ _ (c.in-Ok-Some.is ∙ ap Ok c.in-Ok-Some.field-0-is) c.if-option-wanted.true c.if-left-eq0.true
    ∙ c.loop-option.invariant

pub loop-option-smaller-else-left-eq0 : goal.loop-option-smaller-else-left-eq0
loop-option-smaller-else-left-eq0 c =
    let b = found-bounds c.args.message.now c.loop-option.at _ c.args.wanted c.loop-option.left _ c.next_option.ensures _ _ _
    (c.in-Ok-Some.is ∙ ap Ok c.in-Ok-Some.field-0-is) in
    omega (arith, b.starts, b.ends, b.there)

pub loop-option-smaller : goal.loop-option-smaller
loop-option-smaller c =
    let b = found-bounds c.args.message.now c.loop-option.at _ c.args.wanted c.loop-option.left _ c.next_option.ensures _ _ _
    (c.in-Ok-Some.is ∙ ap Ok c.in-Ok-Some.field-0-is) in
    omega (arith, b.starts, b.ends, b.there)

pub loop-option-preserved-else-left-eq0 : goal.loop-option-preserved-else-left-eq0
loop-option-preserved-else-left-eq0 c =
    found-later _ _ _ _ _ _ c.next_option.ensures _ _ _ (c.in-Ok-Some.is ∙ ap Ok c.in-Ok-Some.field-0-is) c.if-option-wanted.true c.if-left-eq0.false
    ∙ c.loop-option.invariant

pub loop-option-preserved : goal.loop-option-preserved
loop-option-preserved c =
    found-other _ _ _ _ _ _ c.next_option.ensures _ _ _ (c.in-Ok-Some.is ∙ ap Ok c.in-Ok-Some.field-0-is) c.if-option-wanted.false
    ∙ c.loop-option.invariant
