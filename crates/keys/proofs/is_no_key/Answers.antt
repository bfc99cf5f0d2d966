use mathlib.Core.Path.{◌≡◌, ◌∙◌}
use lib.ListN.{length}
use borrow.Author.Tests.{eq-eqb}
use borrow.Author.Rules.{rules}
use Rattle.keys.specs.Keys.{is_no_key, key_sized}
use Rattle.keys.proofs.Keys.{zero-pairs}
use Rattle.keys.proofs.is_no_key.Goals as goal

pub returns : goal.returns
unfolding is_no_key key_sized
returns c =
    let sized : length c.args.key.bytes ≡ 64 = search rules in
    let zero = c.eq.ensures ∙ rw sized at (zero-pairs c.args.key.bytes) in
    (rw zero, eq-eqb _ 64 sized)
