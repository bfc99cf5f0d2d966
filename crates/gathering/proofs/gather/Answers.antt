use mathlib.Core.Path.{◌≡◌}
use mathlib.Core.List.{[]}
use Prim.Native.Nat.{◌<◌}
use native.Mathlib.Omega.{arith}
use lib.ListN.{length, drop, drop_of_length-le}
use Rattle.pieces.proofs.Puts.{putting-start, putting-as, putting-room, putting-next, putting-done}
use Rattle.gathering.proofs.Turns.{all_gathered, gather_step}
use borrow.Author.Rules.{rules}
use Rattle.gathering.proofs.gather.Goals as goal

pub loop-i-init : goal.loop-i-init
loop-i-init c = putting-start _ _ _ (omega (arith, all_gathered c.args.size c.args.memory.now c.args.lengths c.requires.memory_len (search rules) c.requires.short))

pub put-to-requires : goal.put-to-requires
put-to-requires c =
    let here : c.loop-i.i < length c.args.lengths = search rules in
    putting-room _ _ (putting-as c.loop-i.invariant (gather_step c.args.size c.args.memory.now c.args.lengths c.loop-i.i here c.requires.short))

pub loop-i-preserved : goal.loop-i-preserved
loop-i-preserved c =
    let here : c.loop-i.i < length c.args.lengths = search rules in
    putting-next (putting-as c.loop-i.invariant (gather_step c.args.size c.args.memory.now c.args.lengths c.loop-i.i here c.requires.short)) c.put-to.ensures

pub returns : goal.returns
returns c =
    let long = all_gathered c.args.size c.args.memory.now c.args.lengths c.requires.memory_len (search rules) c.requires.short in
    let none : drop c.loop-i.i c.args.lengths ≡ [] = drop_of_length-le c.args.lengths {i = c.loop-i.i} (search rules) in
    let put = putting-done (rw none at c.loop-i.invariant) in
    (put, omega (arith, put.to, long))
