use Rattle.std.proofs.Common.{refl, ◌∙◌, sym, ap}
use Rattle.key_place.specs.Place.{row_index}
use Rattle.key_place.proofs.Unswept.{row_index-here, row_index-some, row_index-none, place_kept, place-new}
use Rattle.key_place.proofs.place_of.Goals as goal

pub returns-in-Some : goal.returns-in-Some
returns-in-Some c =
    let found = row_index-some _ (sym c.find_key.ensures ∙ c.in-Some.is) in
    row_index-here (sym (place_kept _ _ _ _ _ found.0 found.1)) found.1

pub returns : goal.returns
returns c =
    let none = row_index-none _ (sym c.find_key.ensures ∙ c.in_default.is) in
    c.find_free.ensures ∙ ap row_index (sym (place-new _ _ _ _ _ refl none))
