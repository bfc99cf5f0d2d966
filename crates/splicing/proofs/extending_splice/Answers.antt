use mathlib.Core.Path.{sym, ◌∙◌}
use native.Mathlib.Omega.{arith}
use Rattle.splicing.proofs.Splicing.{taken_is}
use borrow.Author.Rules.{rules}
use Rattle.splicing.proofs.extending_splice.Goals as goal

pub replace-requires : goal.replace-requires
replace-requires c =
    let is = taken_is _ _ _ _ _ _ (sym c.splice_of.ensures ∙ c.in_ok-n.was) in
    record { size_bound = omega (arith, is.2); len_in_bounds = search rules; payload_in_bounds = omega (arith, is.0, is.1) }
