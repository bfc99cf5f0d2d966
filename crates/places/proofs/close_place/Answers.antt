use mathlib.Core.Path.{sym, ◌∙◌}
use Rattle.places.specs.Places.{place_of}
use Rattle.places.proofs.close_place.Goals as goal

pub returns-then-all_distinct : goal.returns-then-all_distinct
unfolding place_of
returns-then-all_distinct c = rw (sym c.all_distinct.ensures ∙ c.if-all_distinct.true) (c.standing.ensures ∙ rw c.place_of.ensures)

pub returns : goal.returns
returns c = rw (sym c.all_distinct.ensures ∙ c.if-all_distinct.false)
