use Rattle.std.proofs.Common.{◌≤◌, get_or, length, sym, ◌∙◌, append-nil, arith, rules}
use lib.ListN.{length-set, drop_of_length-le}
use lib.Seq.{take_all}
use Rattle.entries.specs.Entries.{swept, sweep}
use Rattle.entries.proofs.Cases.{live-as}
use Rattle.entries.proofs.Turns.{nil}
use Rattle.entries.proofs.Entries.{swept-live, swept-dead}
use Rattle.block_table.proofs.Turns.{map-set}
use Rattle.block_table.proofs.sweep_row.Goals.{then-not-is_live, else-not-is_live}
use Rattle.block_table.proofs.sweep_row.Goals as goal

pub loop-e-preserved : goal.loop-e-preserved
loop-e-preserved c =
    let f = swept c.args.lifetime c.args.time in
    let row = c.loop-e.e-items in
    let i = c.loop-e.e-index in
    elim c.if-not-is_live.branch [
      | then-not-is_live w ↦
          let gone = swept-dead _ _ _ (live-as _ _ _ _ (sym w.if-not-is_live.true ∙ c.is_live.ensures)) in
          let go = map-set f row i (search rules) w.free_entry.result (gone ∙ sym w.free_entry.ensures) in
          rw w.e-items-is (simp length-set c.loop-e.invariant.0, go ∙ c.loop-e.invariant.1)
      | else-not-is_live w ↦
          let kept = swept-live _ _ _ (live-as _ _ _ _ (sym w.if-not-is_live.false ∙ c.is_live.ensures)) in
          let go = map-set f row i (search rules) (get_or row i nil) kept in
          rw w.e-items-is (simp length-set c.loop-e.invariant.0, go ∙ c.loop-e.invariant.1)
    ]

pub returns : goal.returns
unfolding sweep
returns c =
    let h : length c.loop-e.e-items ≤ c.loop-e.e-index = omega arith in
    (sym (append-nil _) ∙ rw (take_all c.loop-e.e-index c.loop-e.e-items h, drop_of_length-le c.loop-e.e-items h) at c.loop-e.invariant.1, c.loop-e.invariant.0)
