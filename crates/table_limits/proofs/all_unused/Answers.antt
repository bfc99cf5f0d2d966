use Rattle.std.proofs.Common.{◌≡◌, true, false, rules, tests}
use Rattle.std.proofs.lemmas.Iterator.{cases_from_all, YieldsList-from_slice}
use Rattle.entries.specs.Entries.{unused}
use Rattle.table_limits.proofs.Every.{decides_all}
use Rattle.table_limits.proofs.all_unused.Goals as goal

pub returns : goal.returns
returns c =
    decides_all unused c.args.entries _
    (cases_from_all _ _ _ (λ e. unused e ≡ true) (λ e. unused e ≡ false) c.all.ensures.ran (YieldsList-from_slice c.args.entries cc)
    (λ x q k. search (rules, tests)) (λ x q k. search (rules, tests)))
