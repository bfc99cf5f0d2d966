use mathlib.Core.Path.{◌≡◌, refl, ap, ◌∙◌}
use mathlib.Core.Bool.{◌&&◌}
use native.Mathlib.Omega.{arith}
use Rattle.std.specs.Prelude.{is_some}
use Rattle.block_table.specs.Table.{table_ok}
use Rattle.image_format.specs.Image.{read_entries}
use Rattle.image_format.proofs.Rows.{read_count}
use Rattle.image_reader.proofs.Loading.{described-is, described-by, judged-by, read_all, some-if, some-is}
use Rattle.image_reader.proofs.judge_rows.Goals.{then-same_image, else-same_image}
use Rattle.image_reader.proofs.judge_rows.Goals as goal

pub same_image-requires : goal.same_image-requires
same_image-requires c =
    let read : c.read_rows-entries.result ≡ read_entries c.args.image.now = read_all _ _ _ c.read_rows-entries.ensures.0 c.requires.0 in
    (omega arith, rw read (omega (arith, read_count c.args.image.now, c.requires)))

pub returns-clause-ok : goal.returns-clause-ok
returns-clause-ok c =
    let t = c.table_of-table.result in
    let read : c.read_rows-entries.result ≡ read_entries c.args.image.now = read_all _ _ _ c.read_rows-entries.ensures.0 c.requires.0 in
    let both : c.if-same_image.ok ≡ (c.same_image.result && table_ok c.args.config t) =
    elim c.if-same_image.branch [
      | then-same_image w ↦ rw w.if-same_image.true (w.ok-is ∙ w.table_ok-ok.ensures)
      | else-same_image w ↦ rw w.if-same_image.false (w.ok-is ∙ w.if-same_image.false)
    ] in
    ap is_some c.then_some.ensures ∙ some-if c.if-same_image.ok t ∙ both
    ∙ judged-by _ _ _ c.number_at-clock.ensures.0 read _ _ _ _ c.table_of-table.ensures c.same_image.ensures refl

pub returns-clause-table : goal.returns-clause-table
returns-clause-table c =
    let t = c.table_of-table.result in
    let read : c.read_rows-entries.result ≡ read_entries c.args.image.now = read_all _ _ _ c.read_rows-entries.ensures.0 c.requires.0 in
    rw c.then_some.ensures (some-is c.if-same_image.ok t (described-by _ _ _ c.number_at-clock.ensures.0 read _ c.table_of-table.ensures ∙ described-is _))
