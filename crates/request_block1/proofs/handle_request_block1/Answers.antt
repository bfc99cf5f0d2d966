use mathlib.Core.Path.{◌≡◌, refl, sym, ap, ◌∙◌}
use lib.ListN.{length}
use Rattle.splicing.specs.Splice.{splice_of}
use Rattle.block_value.specs.Value.{block_size, block_start}
use Rattle.request_block1.specs.Block1.{length_met, taken_as}
use Rattle.request_block1.proofs.Taking.{taken-bad, taken-not-next, taken_next, piece-as}
use Rattle.request_block1.proofs.handle_request_block1.Goals as goal

pub returns-then-config-bad_form : goal.returns-then-config-bad_form
returns-then-config-bad_form c = record { value = sym (taken-bad _ _ _ _ (rw c.bad_form.ensures at c.if-config-bad_form.true)); piece_after = refl }

pub returns-then-config-not_next : goal.returns-then-config-not_next
returns-then-config-not_next c =
    let good = rw c.bad_form.ensures at c.if-config-bad_form.false in
    record { value = sym (taken-not-next _ _ _ _ good (rw c.not_next.ensures at c.if-config-not_next.true)); piece_after = refl }

-- the splice is that of the block's own start and size, and of the length that it meets

pub returns : goal.returns
returns c =
    let good = rw c.bad_form.ensures at c.if-config-bad_form.false in
    let follows = rw c.not_next.ensures at c.if-config-not_next.false in
    let l = length_met c.args.config.strict c.args.assembled c.args.block in
    let same : c.extending_splice.result ≡ splice_of c.args.config.upload l (block_start c.args.block) (block_size c.args.block) (length c.args.payload.now) =
    rw (← c.requires.0, ← c.length_met-len.ensures.0, ← c.start-start.ensures.0, ← c.size-size.ensures) c.extending_splice.ensures.value in
    let told = c.taken_as.ensures in
    record {
      value = told ∙ ap (taken_as c.args.block.more) same ∙ sym (taken_next _ _ _ _ good follows);
      piece_after =
          rw (told, piece-as _ _ _ _ _ _ _, ← c.length_met-len.ensures.0, ← c.start-start.ensures.0, ← c.size-size.ensures)
          c.extending_splice.ensures.piece_after;
    }
