use Rattle.std.proofs.Common.{◌≡◌, length, min, arith, rules}
use Rattle.std.proofs.lemmas.List.{take_min}
use Rattle.keys.specs.Keys.{key_of}
use Rattle.keys.proofs.cut.Goals as goal

pub returns : goal.returns
unfolding key_of
returns c =
    let sized : length c.args.key.bytes ≡ 64 = search rules in
    let is : c.min.result ≡ min c.args.key.len (length c.args.key.bytes) = cc in
    (rw is (take_min c.args.key.len c.args.key.bytes), omega arith, sized)
