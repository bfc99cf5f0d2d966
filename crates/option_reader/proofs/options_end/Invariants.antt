use mathlib.Core.Path.{◌≡◌}
use Prim.Native.Nat.{◌-◌, ◌≤◌}
use lib.ListN.{length, drop}
use Rattle.message_format.specs.Format.{options_of}
use Rattle.option_reader.specs.Reader.{ends_of}
use Rattle.option_reader.proofs.options_end.Given as goal

abbrev pub invariant-loop-left : goal.invariant-loop-left
invariant-loop-left l = (l.at ≤ length l.message) × (ends_of (options_of l.last (drop l.at l.message)) ≡ ends_of (options_of 0 (drop l.start l.message)))

abbrev pub decreases-loop-left : goal.decreases-loop-left
decreases-loop-left l = length l.message - l.at
