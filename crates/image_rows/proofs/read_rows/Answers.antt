use mathlib.Core.Path.{refl, ◌∙◌}
use native.Mathlib.Omega.{arith}
use lib.Seq.{set_out}
use lib.ListN.{length-set}
use Rattle.image_format.specs.Rows.{read_entry}
use Rattle.image_rows.proofs.Turns.{row, read_turn}
use borrow.Author.Rules.{rules}
use Rattle.image_rows.proofs.read_rows.Goals.{then-number-lt16, else-number-lt16}
use Rattle.image_rows.proofs.read_rows.Goals as goal

pub loop-j-preserved : goal.loop-j-preserved
loop-j-preserved c =
    elim c.if-number-lt16.branch [
      | then-number-lt16 w ↦
          let turn = read_turn c.loop-j.entries c.args.n c.loop-j.j c.args.image.now _ _ (search rules) c.from-number.ensures w.read_entry.ensures in
          rw w.entries-is record { sixteen = length-set c.loop-j.entries _ _ ∙ c.loop-j.invariant.sixteen; left = turn ∙ c.loop-j.invariant.left }
      | else-number-lt16 w ↦
          let e = read_entry (row c.args.image.now c.loop-j.j) in
          let number = c.from-number.result in
          let out = set_out c.loop-j.entries number e (omega (arith, c.loop-j.invariant.sixteen, w.if-number-lt16.false)) in
          let turn = read_turn c.loop-j.entries c.args.n c.loop-j.j c.args.image.now number e (search rules) c.from-number.ensures refl in
          rw w.entries-is record { sixteen = c.loop-j.invariant.sixteen; left = rw out at turn ∙ c.loop-j.invariant.left }
    ]
