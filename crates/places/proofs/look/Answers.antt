use mathlib.Core.Path.{◌≡◌, sym, ap, ◌∙◌}
use mathlib.Core.Bool.{cond}
use Prim.Native.Nat.{◌≤◌}
use native.Mathlib.Omega.{arith}
use lib.ListN.{length}
use lib.Seq.{take_all}
use borrow.Author.Rules.{rules}
use Rattle.std.specs.Prelude.{Option}
use Rattle.keys.specs.Keys.{Name, key_of, named_of}
use Rattle.keys.proofs.Keys.{named_ok, named-read, named-tag}
use Rattle.entries.specs.Entries.{sweep}
use Rattle.block_table.specs.Table.{distinct}
use Rattle.block_table.specs.Quick.{tags_from}
use Rattle.entries.proofs.Turns.{nil}
use Rattle.block_table.proofs.Quick.{tags-go, tags-length}
use Rattle.places.specs.declared.Place.{Place}
use Rattle.places.specs.declared.Place.TheVariants.{OffLimits}
use Rattle.places.specs.Places.{place_of}
use Rattle.places.specs.Sight.{place_in, settled}
use Rattle.places.proofs.Looks.{Ended, walk-goes, walk_ends, within_all, held-first, place-seen, sight-is, beside-least}
use Rattle.places.proofs.look.Goals.{in-Some, in-None, in-Some-quick_place, in-None-quick_place}
use Rattle.places.proofs.look.Goals as goal

pub loop-i-preserved : goal.loop-i-preserved
loop-i-preserved c =
    let row : length c.args.table.entries ≡ 16 = search rules in
    walk-goes c.args.config c.args.table.clock c.args.time c.args.table.entries _ c.loop-i.seen c.loop-i.i c.loop-i.invariant (omega arith)
    row _ c.see-seen.ensures.0 c.see-seen.ensures.1 c.see-seen.ensures.2

pub loop-j-preserved : goal.loop-j-preserved
loop-j-preserved c =
    let row : length c.args.table.entries ≡ 16 = search rules in
    let go = tags-go c.args.table.entries c.loop-j.tags c.loop-j.j _ nil (omega arith) (omega arith) c.tag.ensures c.loop-j.invariant.1 in
    (search rules, go)

-- what is expired is among what is held
pub overflow_sub-result : goal.overflow_sub-result
overflow_sub-result c =
    let row : length c.args.table.entries ≡ 16 = search rules in
    let ended : length c.args.table.entries ≤ c.loop-i.i = omega arith in
    let seen = walk_ends c.args.config c.args.table.clock c.args.time c.args.table.entries c.args.named.ok c.loop-i.seen c.loop-i.i
    c.loop-i.invariant ended (omega arith) row in
    omega (arith, seen.kept)

module _ (c : goal.After-kept_by) where
  row : length c.args.table.entries ≡ 16
  row = search rules

  -- what both walks come to
  seen : Ended c.args.config c.args.table.clock c.args.time c.args.table.entries c.args.named.ok c.loop-i.seen
  seen = walk_ends _ _ _ _ _ c.loop-i.seen c.loop-i.i c.loop-i.invariant (omega (arith, row)) (omega (arith, row)) row

  tags : c.loop-j.tags ≡ tags_from 0 c.args.table.entries
  tags =
      let entries = c.args.table.entries in
      sym (take_all c.loop-j.j c.loop-j.tags (omega arith)) ∙ c.loop-j.invariant.1
      ∙ take_all c.loop-j.j (tags_from 0 entries) (omega (arith, tags-length 0 entries, row))

  first : c.match-first.first ≡ c.find_tag-first.result
  first = elim c.match-first.branch [ in-Some w ↦ w.first-is ∙ sym w.in-Some.is | in-None w ↦ w.first-is ]

  holds : c.match-first.holds ≡ held-first c.args.config.lifetime c.args.time (key_of c.args.named.key) c.args.table.entries c.match-first.first
  holds =
      elim c.match-first.branch [
        | in-Some w ↦ w.holds-is ∙ w.holds_live-holds.ensures ∙ rw w.first-is
        | in-None w ↦ w.holds-is ∙ rw (w.first-is ∙ w.in-None.is)
      ]

  -- the place that the tags tell, or, where two are equal, the one found byte by byte
  there : let args = c.args in let key = key_of args.named.key in (k : Name) → args.named ≡ named_of k
      → settled c.quick_place.result (cond (distinct args.table.entries) (place_of key (sweep args.config.lifetime args.time args.table.entries)) OffLimits)
      ≡ place_in args.config args.time k args.table
  there k is =
      let args = c.args in
      let ok = within_all args.table _ _ _ _ _ (named_ok k args.named is) seen.ok seen.counted in
      place-seen args.config args.table k args.time (key_of args.named.key) _ c.loop-i.seen.free c.loop-j.tags args.named.tag
      c.match-first.first c.match-first.holds row ok seen.free (named-read k args.named is) (named-tag k args.named is) tags (first ∙ c.find_tag-first.ensures)
      holds c.apart.result _ c.apart.ensures c.quick_place.ensures

-- and what the key's entry holds is among what is left
pub overflow_sub-result-2 : goal.overflow_sub-result-2
overflow_sub-result-2 c =
    rw c.kept_by.ensures.0
    (beside-least c.args.table.entries c.index_of-at.result _ _ _ _ (omega (arith, row c, c.index_of-at.ensures.1)) (seen c).kept)

pub returns : goal.returns
returns c =
    let args = c.args in
    λ k is.
    let by_bytes = cond (distinct args.table.entries) (place_of (key_of args.named.key) (sweep args.config.lifetime args.time args.table.entries)) OffLimits in
    let place : c.match-quick_place.place ≡ place_in args.config args.time k args.table =
    elim c.match-quick_place.branch [
      | in-Some-quick_place w ↦ w.place-is ∙ ap (λ (q : Option Place). settled q by_bytes) (sym w.in-Some-quick_place.is) ∙ there c k is
      | in-None-quick_place w ↦ w.place-is ∙ w.close_place-place.ensures ∙ ap (λ (q : Option Place). settled q by_bytes) (sym w.in-None-quick_place.is) ∙ there c k is
    ] in (
      sight-is args.config args.time args.table _ _ _ _ _ _ _ place c.index_of-at.ensures.0 c.index_of-at.ensures.1 (row c) (seen c).freed
          (seen c).kept c.kept_by.ensures.0,
      row c,
      (seen c).long,
      omega (arith, (seen c).few),
    )
