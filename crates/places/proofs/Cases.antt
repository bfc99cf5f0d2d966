-- The key's place in a table, by the cases of the code. Assumes nothing.
use mathlib.Core.Path.{◌≡◌, sym, ap, ◌∙◌}
use mathlib.Core.List.{List}
use mathlib.Core.Bool.{Bool, true, false, cond, ◌&&◌}
use Prim.Native.Nat.{ℕ, ◌<◌}
use native.Mathlib.Omega.{arith}
use lib.ListN.{length, get_or}
use lib.Dec.{eqb}
use borrow.Author.Tests.{lt-ltb}
use Rattle.std.specs.Prelude.{Some}
use Rattle.tags.specs.Tags.{pairs}
use Rattle.tags.proofs.Counts.{told-apart}
use Rattle.config.specs.declared.Config.{Config}
use Rattle.block_table.specs.declared.Table.{Table}
use Rattle.keys.specs.Lists.{find, all}
use Rattle.keys.specs.Keys.{Name, tag_of}
use Rattle.entries.specs.Entries.{entry_ok, sweep}
use Rattle.block_table.specs.Table.{distinct, figure_ok, table_ok}
use Rattle.places.specs.declared.Place.{Place}
use Rattle.places.specs.declared.Place.TheVariants.{OffLimits}
use Rattle.key_place.specs.Place.{row_index, place}
use Rattle.places.specs.Places.{standing, place_of}
use Rattle.entries.specs.Quick.{holds_live, not_live}
use Rattle.block_table.specs.Quick.{tags_from}
use Rattle.block_table.proofs.Quick.{tags-length, distinct-by}
use Rattle.entries.proofs.Turns.{nil}
use Rattle.key_place.proofs.Unswept.{place_kept, place-new}
use Rattle.places.proofs.Tagged.{tagged-holds, tagged-none}

module _ (c : Config) (t : Table) (k : Name) (lifetime time : ℕ) where
  abbrev there : Place
  there = place_of k (sweep lifetime time t.entries)

  abbrev found : Place
  found = cond (table_ok c t) there OffLimits

  -- each entry is within its limits, and the figure is the row's
  abbrev pub each : Bool
  each = all (entry_ok c t.clock) t.entries && figure_ok t

  pub off-each : each ≡ false → found ≡ OffLimits
  unfolding table_ok
  off-each h = rw h

  pub by_bytes : (b : Bool) → each ≡ true → distinct t.entries ≡ b → found ≡ cond b there OffLimits
  unfolding table_ok
  by_bytes b h d = rw (h, d)

  by_tags : length t.entries ≡ 16 → each ≡ true
      → eqb (pairs (tags_from 0 t.entries) (tags_from 0 t.entries)) 16 ≡ true → (i : ℕ) → place k (sweep lifetime time t.entries) ≡ i → standing (row_index i) ≡ found
  unfolding place_of
  by_tags len h apart i is =
      let told = told-apart (tags_from 0 t.entries) (tags-length 0 t.entries ∙ len) apart in
      sym (by_bytes true h (distinct-by t.entries 0 told) ∙ ap (λ (z : ℕ). standing (row_index z)) is)

  -- by the first entry with the key's own tag
  module _ (row : List ℕ) (own i : ℕ) (len : length t.entries ≡ 16) (h : each ≡ true)
      (tags : row ≡ tags_from 0 t.entries) (apart : eqb (pairs row row) 16 ≡ true) (tag : own ≡ tag_of k) (first : i ≡ find (λ x. eqb x own) row) where
    told : eqb (pairs (tags_from 0 t.entries) (tags_from 0 t.entries)) 16 ≡ true
    told = rw tags at apart

    at_tag : i ≡ find (λ x. eqb x (tag_of k)) (tags_from 0 t.entries)
    at_tag = rw (tags, tag) at first

    pub by-own : (held : Bool) → held ≡ holds_live lifetime time k (get_or t.entries i nil) → held ≡ true → i < 16 → standing (Some i) ≡ found
    by-own held e y below =
        let f = tagged-holds lifetime time k t.entries i at_tag (omega arith) (sym e ∙ y) in
        rw (lt-ltb i 16 below) at (by_tags len h told i (place_kept k lifetime time t.entries i f below))

    pub by-none : (i < 16 → holds_live lifetime time k (get_or t.entries i nil) ≡ false) → standing (row_index (find (not_live lifetime time) t.entries)) ≡ found
    by-none n =
        let apart = told-apart (tags_from 0 t.entries) (tags-length 0 t.entries ∙ len) told in
        let f = tagged-none lifetime time k t.entries i at_tag apart (λ below. n (omega arith)) in
        by_tags len h told _ (place-new k lifetime time t.entries 16 (sym (f ∙ len)) (omega arith))
