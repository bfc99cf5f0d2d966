use Rattle.keys.specs.Keys.{key_of}
use Rattle.keys.proofs.Keys.{put-stored}
use Rattle.keys.proofs.put_key.Goals as goal

pub returns : goal.returns
unfolding key_of
returns c = put-stored c.args.key c.cut-n.result c.cut-n.ensures.2 c.cut-n.ensures.1 c.cut-n.ensures.0 c.requires c.put-to.ensures c.zero_fill.ensures
