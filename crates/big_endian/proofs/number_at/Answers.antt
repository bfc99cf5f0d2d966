use mathlib.Core.Path.{◌≡◌}
use Prim.Native.Nat.{ℕ, ◌+◌, ◌-◌}
use native.Mathlib.Omega.{arith}
use lib.ListN.{length-take, length-drop}
use Rattle.pieces.specs.Memory.{part}
use Rattle.pieces.proofs.Memory.{length_part}
use Rattle.block_option.proofs.Laws.{upto-start, upto_next, upto_done}
use Rattle.big_endian.specs.Numbers.{number_at}
use Rattle.big_endian.proofs.Numbers.{upto-room}
use borrow.Author.Rules.{rules}
use Rattle.big_endian.proofs.number_at.Goals as goal

pub loop-byte-init : goal.loop-byte-init
loop-byte-init c = upto-start _

-- the number so far leaves room for a byte more
pub overflow_mul-n : goal.overflow_mul-n
overflow_mul-n c =
    let room = upto-room _ _ _ c.loop-byte.invariant (omega (arith, length-take {A = ℕ}, length-drop {A = ℕ})) in
    omega arith

pub overflow_add-n : goal.overflow_add-n
overflow_add-n c =
    let room = upto-room _ _ _ c.loop-byte.invariant (omega (arith, length-take {A = ℕ}, length-drop {A = ℕ})) in
    omega arith

pub loop-byte-preserved : goal.loop-byte-preserved
unfolding part
loop-byte-preserved c =
    let few : c.args.at + c.args.k - c.args.at ≡ c.args.k = omega arith in
    upto_next _ _ _ c.loop-byte.invariant _ (rw (← few) c.loop-byte-test.true) (rw few at c.from.ensures) (search rules)

pub returns : goal.returns
unfolding number_at
returns c =
    let long = length_part c.args.bytes.now c.args.at c.args.k c.requires.0 in
    let all : c.loop-byte.byte-index ≡ c.args.k = omega (arith, c.loop-byte.invariant.within, length-take {A = ℕ}, length-drop {A = ℕ}) in
    (upto_done _ _ _ c.loop-byte.invariant (omega arith), rw all at c.loop-byte.invariant.below)
