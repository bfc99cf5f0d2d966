use Rattle.std.proofs.Common.{◌≡◌, drop}
use Rattle.state_text.specs.Memory.{fnv_from, fnv_of}
use Rattle.state_text.proofs.memory.fnv.Given as goal

abbrev pub invariant-loop-b : goal.invariant-loop-b
invariant-loop-b l = fnv_from l.h (drop l.b-index l.bytes) ≡ fnv_of l.bytes
