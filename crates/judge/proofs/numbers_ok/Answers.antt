use mathlib.Core.Path.{sym, ◌∙◌}
use Rattle.judge.proofs.Judged.{config-fits}
use Rattle.judge.proofs.numbers_ok.Goals as goal

pub memories_ok-requires : goal.memories_ok-requires
memories_ok-requires c = let f = config-fits _ (sym c.config_ok.ensures ∙ c.if-config_ok.true) in (f.upload, f.response)
