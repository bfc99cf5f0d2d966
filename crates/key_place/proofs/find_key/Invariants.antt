use Rattle.std.proofs.Common.{◌≡◌, ◌+◌, drop}
use Rattle.keys.specs.Lists.{find}
use Rattle.keys.specs.Keys.{key_of}
use Rattle.entries.specs.Quick.{holds_live}
use Rattle.key_place.proofs.find_key.Given as goal

abbrev pub invariant-loop-i : goal.invariant-loop-i
invariant-loop-i l = let own = holds_live l.lifetime l.time (key_of l.key) in l.i + find own (drop l.i l.entries) ≡ find own l.entries
