use Rattle.std.proofs.Common.{◌≡◌, ◌+◌, drop}
use Rattle.keys.specs.Lists.{find}
use Rattle.entries.specs.Quick.{not_live}
use Rattle.key_place.proofs.find_free.Given as goal

abbrev pub invariant-loop-at : goal.invariant-loop-at
invariant-loop-at l = let gone = not_live l.lifetime l.time in l.at + find gone (drop l.at l.entries) ≡ find gone l.entries
