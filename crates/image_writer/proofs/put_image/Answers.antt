use mathlib.Core.Path.{ap}
use Rattle.gathering.specs.Gather.{gathered}
use Rattle.pieces.proofs.Puts.{put_as}
use Rattle.image_writer.proofs.Saving.{image-put}
use Rattle.image_writer.proofs.put_image.Goals as goal

pub returns : goal.returns
returns c =
    image-put c.args.config c.args.clock c.args.entries c.args.upload.now c.args.response.now c.put_header-at.ensures.0 c.put_rows-at.ensures.0
    (put_as c.gather-at.ensures.0 (ap (gathered c.args.config.upload c.args.upload.now 0) c.lengths_of-lengths.ensures.0))
    (put_as c.gather.ensures.0 (ap (gathered c.args.config.response c.args.response.now 0) c.lengths_of-lengths.ensures.1))
