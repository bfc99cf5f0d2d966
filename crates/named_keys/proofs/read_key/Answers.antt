use Rattle.std.proofs.Common.{◌≡◌, length, min, ◌∙◌, ap}
use Rattle.std.proofs.lemmas.List.{take_min}
use Rattle.keys.specs.Keys.{stored}
use Rattle.named_keys.proofs.read_key.Goals as goal

pub returns : goal.returns
returns c =
    let sized : length c.args.bytes.now ≡ 64 = c.requires in
    let is : c.min-n.result ≡ min c.args.len (length c.args.bytes.now) = cc in
    c.stored_key.ensures ∙ ap stored (rw is (take_min c.args.len c.args.bytes.now))
