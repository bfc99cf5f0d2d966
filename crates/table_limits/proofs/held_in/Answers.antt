use mathlib.Core.Path.{◌≡◌}
use Prim.Native.Nat.{◌+◌, ◌<◌}
use native.Mathlib.Omega.{arith}
use lib.ListN.{length, drop, drop_of_length-le}
use Rattle.keys.proofs.Turns.{drop-step}
use Rattle.entries.specs.Held.{held}
use Rattle.entries.proofs.Turns.{nil}
use borrow.Author.Rules.{rules}
use Rattle.table_limits.proofs.held_in.Goals as goal

pub loop-e-preserved : goal.loop-e-preserved
unfolding held
loop-e-preserved c =
    let here : c.loop-e.e-index < length c.args.entries = search rules in
    let next : held (drop c.loop-e.e-index c.args.entries) ≡ c.held_by-bytes.result + held (drop (c.loop-e.e-index + 1) c.args.entries) =
    rw (drop-step c.args.entries c.loop-e.e-index nil here, c.held_by-bytes.ensures.0) in
    record { small = omega (arith, c.held_by-bytes.ensures.1); left = omega arith }

pub returns : goal.returns
unfolding held
returns c =
    let none : held (drop c.loop-e.e-index c.args.entries) ≡ 0 = rw (drop_of_length-le c.args.entries {i = c.loop-e.e-index} (search rules)) in
    omega arith
