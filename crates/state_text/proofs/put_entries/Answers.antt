use Rattle.std.proofs.Common.{◌≡◌, refl, length, rules, arith}
use Rattle.state_text.proofs.Entries.{shown-start, shown-turn, shown-none, shown-some}
use Rattle.state_text.proofs.put_entries.Goals as goal

pub loop-i-init : goal.loop-i-init
loop-i-init c = shown-start _ _ _ (search rules)

pub put_next-k-requires : goal.put_next-k-requires
put_next-k-requires c = omega (arith, c.loop-i.invariant.reach)

pub loop-i-preserved : goal.loop-i-preserved
loop-i-preserved c =
    let long : length c.args.entries ≡ 16 = search rules in
    shown-turn c.loop-i.invariant _ (omega arith) refl c.put_next-k.ensures.put c.put_next-k.ensures.upper_bound

pub returns-then-k-at-clause-put : goal.returns-then-k-at-clause-put
returns-then-k-at-clause-put c =
    let long : length c.args.entries ≡ 16 = search rules in
    shown-none c.loop-i.invariant (omega arith) c.if-k-at.true c.put_byte.ensures

pub returns : goal.returns
returns c =
    let long : length c.args.entries ≡ 16 = search rules in
    record { put = shown-some c.loop-i.invariant (omega arith) c.if-k-at.false; upper_bound = omega (arith, c.loop-i.invariant.reach) }
