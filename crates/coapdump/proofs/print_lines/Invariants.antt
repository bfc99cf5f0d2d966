use Rattle.std.proofs.Common.{◌≡◌, ◌-◌, length}
use Rattle.coapdump.proofs.Lining.{Going}
use Rattle.coapdump.proofs.print_lines.Given as goal

abbrev pub invariant-loop-end : goal.invariant-loop-end
invariant-loop-end l =
    (length l.digits ≡ length l.initial.digits) × (length l.bytes ≡ length l.initial.bytes) × (length l.out ≡ length l.initial.out)
    × Going l.initial.number l.initial.unreadable l.text l.number l.unreadable l.from l.end

abbrev pub decreases-loop-end : goal.decreases-loop-end
decreases-loop-end l = length l.text - l.from
