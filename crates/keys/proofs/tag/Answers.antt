use mathlib.Core.Path.{◌∙◌, ap}
use Rattle.digest.specs.Digest.{digest_of}
use Rattle.tags.specs.Tags.{folded}
use Rattle.keys.specs.Keys.{tag_of}
use Rattle.keys.proofs.tag.Goals as goal

pub returns : goal.returns
unfolding tag_of
returns c = c.fold.ensures ∙ ap folded (c.digest.ensures ∙ ap digest_of c.cut.ensures.0)
