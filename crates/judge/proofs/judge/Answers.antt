use mathlib.Core.Path.{◌≡◌, sym, ◌∙◌}
use mathlib.Core.Bool.{true, ◌&&◌}
use Rattle.judge.specs.Limits.{config_ok, memories_ok}
use Rattle.judge.proofs.Judged.{off-numbers, off-message, by_place}
use Rattle.judge.proofs.judge.Goals as goal

pub returns-then-not-numbers_ok : goal.returns-then-not-numbers_ok
returns-then-not-numbers_ok c = off-numbers _ _ _ _ (sym c.numbers_ok.ensures ∙ c.if-not-numbers_ok.true)

pub returns-then-not-message_ok : goal.returns-then-not-message_ok
returns-then-not-message_ok c =
    let within-numbers : (config_ok c.args.config && memories_ok c.args.config c.args.lengths.upload c.args.lengths.response) ≡ true =
    sym c.numbers_ok.ensures ∙ c.if-not-numbers_ok.false in
    off-message _ _ _ _ within-numbers (sym c.message_ok.ensures ∙ c.if-not-message_ok.true)

pub returns : goal.returns
returns c =
    let within-numbers : (config_ok c.args.config && memories_ok c.args.config c.args.lengths.upload c.args.lengths.response) ≡ true =
    sym c.numbers_ok.ensures ∙ c.if-not-numbers_ok.false in
    c.verdict_at.ensures ∙ by_place _ _ _ _ within-numbers (sym c.message_ok.ensures ∙ c.if-not-message_ok.false)
