use mathlib.Core.Path.{sym, ◌∙◌}
use Rattle.script_fields.proofs.Pairs.{dash-option, no-dash}
use Rattle.script_fields.proofs.option_field.Goals as goal

pub returns-then-is_mark : goal.returns-then-is_mark
returns-then-is_mark c = dash-option _ _ _ c.requires (sym c.is_mark.ensures ∙ c.if-is_mark.true)

pub returns : goal.returns
returns c = let d = no-dash _ (sym c.is_mark.ensures ∙ c.if-is_mark.false) in rw (d.0, d.1) c.bytes_field.ensures
