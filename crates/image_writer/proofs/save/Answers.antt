use mathlib.Core.Path.{sym, ap, ◌∙◌}
use lib.ListN.{length}
use Rattle.call.specs.Contract.{world}
use Rattle.image_format.specs.Image.{total}
use Rattle.image_writer.proofs.Saving.{room}
use borrow.Author.Rules.{rules}
use Rattle.image_writer.proofs.save.Goals as goal

pub put_image-requires : goal.put_image-requires
put_image-requires c =
    rw c.live_entries-entries.ensures.0 (room c.args.config (world c.args.table c.args.upload.now c.args.response.now) c.args.out.now (sym c.within_limits.ensures ∙ c.if-not-within_limits.false) _
    (c.measure-length.ensures.3 ∙ ap total c.live_entries-entries.ensures.0) (ap length (sym c.live_entries-entries.ensures.0) ∙ c.live_entries-entries.ensures.1) (search rules))
