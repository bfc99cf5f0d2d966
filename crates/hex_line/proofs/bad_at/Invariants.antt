use Rattle.script_fields.specs.Fields.{is_hex}
use Rattle.hex_line.proofs.Texts.{Passed}
use Rattle.hex_line.proofs.bad_at.Given as goal

abbrev pub invariant-loop-i : goal.invariant-loop-i
invariant-loop-i l = Passed is_hex l.text l.i
