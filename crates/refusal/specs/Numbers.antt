-- Document 01, "The ten refusals": the number of each.
use Rattle.std.specs.Prelude.{ℕ}
use Rattle.refusal.specs.declared.Refusal.{Refusal}
use Rattle.refusal.specs.declared.Refusal.TheVariants.{OffLimits, ClockBack, TableFull, TooLargeToEncode, NoBlockValue, Jump, NoRoom, PastTheEnd, NotNext, BadForm}

abbrev pub refusal_number : Refusal → ℕ
refusal_number OffLimits = 1
refusal_number ClockBack = 2
refusal_number TableFull = 3
refusal_number TooLargeToEncode = 4
refusal_number NoBlockValue = 5
refusal_number Jump = 6
refusal_number NoRoom = 7
refusal_number PastTheEnd = 8
refusal_number NotNext = 9
refusal_number BadForm = 10
