use Rattle.std.proofs.Common.{◌≡◌, length, take}
use Rattle.block_table.specs.Quick.{tags_from}
use Rattle.places.proofs.Looks.{Walked}
use Rattle.places.proofs.look.Given as goal

abbrev pub invariant-loop-i : goal.invariant-loop-i
invariant-loop-i l = Walked l.config l.clock l.time l.fn.table.entries l.named.ok l.seen l.i

abbrev pub invariant-loop-j : goal.invariant-loop-j
invariant-loop-j l = (length l.tags ≡ 16) × (take l.j l.tags ≡ take l.j (tags_from 0 l.fn.table.entries))
