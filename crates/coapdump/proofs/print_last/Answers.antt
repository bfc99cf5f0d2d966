use borrow.Author.Tests.{eqb-true}
use Rattle.std.proofs.Common.{sym, ℕ, ◌+◌, ◌%◌, ◌^◌, refl, ap, ◌∙◌, arith}
use Rattle.ending.specs.declared.Ending.{Ending}
use Rattle.coapdump.proofs.Lining.{unread-none, unread-one}
use Rattle.coapdump.proofs.print_last.Goals as goal

pub returns-then-is_empty-clause-unreadable_value : goal.returns-then-is_empty-clause-unreadable_value
returns-then-is_empty-clause-unreadable_value c =
    let is = c.stopped.ensures in (
      ap (λ (e : Ending). e.unreadable) is ∙ omega (arith, unread-none c.args.text.now (eqb-true _ 0 (sym c.is_empty.ensures ∙ c.if-is_empty.true)), c.well_formed),
      ap (λ (e : Ending). e.read_failed) is,
    )

pub returns-clause-unreadable_value : goal.returns-clause-unreadable_value
returns-clause-unreadable_value c =
    let one = unread-one c.args.text.now _ c.print_line-last.ensures.unread_value in
    (c.counted.ensures ∙ ap (λ (n : ℕ). (c.args.so_far.unreadable + n) % 2 ^ 64) one, refl)
