use Rattle.digest.specs.Digest.{stirred}
use Rattle.digest.proofs.Words.{turned}
use Rattle.digest.proofs.stir.Goals as goal

pub returns : goal.returns
unfolding stirred
returns c = rw (c.rotate_left.ensures, turned c.args.d c.ranges.d.fits)
