use Rattle.std.proofs.Common.{◌≡◌, true, false, rules, tests}
use Rattle.std.proofs.lemmas.Iterator.{cases_from_all, YieldsList-from_slice}
use Rattle.entries.specs.Entries.{entry_ok}
use Rattle.table_limits.proofs.Every.{decides_all}
use Rattle.table_limits.proofs.entries_ok.Goals as goal

pub returns : goal.returns
returns c =
    let ok = entry_ok c.args.config c.args.clock in
    decides_all ok c.args.entries _
    (cases_from_all _ _ _ (λ e. ok e ≡ true) (λ e. ok e ≡ false) c.all.ensures.ran (YieldsList-from_slice c.args.entries cc)
    (λ x q k. search (rules, tests)) (λ x q k. search (rules, tests)))
