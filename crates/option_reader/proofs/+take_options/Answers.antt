use Rattle.std.proofs.Common.{arith, ap, ◌∙◌}
use Rattle.std.specs.Prelude.{Ok}
use Rattle.std.proofs.lemmas.Result.{err_from_is_err_and}
use Rattle.option_reader.proofs.Laws.{rest-shorter, run-goes-on, run_ends, run-bad}
use Rattle.option_reader.proofs.+take_options.Goals as goal

pub returns-in_err-option : goal.returns-in_err-option
returns-in_err-option t c =
    let p = err_from_is_err_and c.from_residual.result c.from_residual.ensures.1 in
    rw p.1 (run-bad _ _ _ _ c.next_in.ensures c.in_err-option.was)

pub returns-in_default : goal.returns-in_default
returns-in_default t c = run_ends _ _ _ _ c.next_in.ensures (c.in_ok-option.was ∙ ap Ok c.in_default.is)

pub slice_bounds-take_options-count : goal.slice_bounds-take_options-count
slice_bounds-take_options-count t c =
    (rest-shorter c.args.before c.args.rest.now c.args.calls _ c.next_in.ensures _ _ _ (c.in_ok-option.was ∙ ap Ok c.in-Some.is)).0

pub slice_bounds-take_options-start : goal.slice_bounds-take_options-start
slice_bounds-take_options-start t c =
    (rest-shorter c.args.before c.args.rest.now c.args.calls _ c.next_in.ensures _ _ _ (c.in_ok-option.was ∙ ap Ok c.in-Some.is)).0

pub take_options-requires : goal.take_options-requires
take_options-requires t c =
    let rest = rest-shorter c.args.before c.args.rest.now c.args.calls _ c.next_in.ensures _ _ _ (c.in_ok-option.was ∙ ap Ok c.in-Some.is) in
    (omega (arith, c.decreases, rest.1), tt)

pub returns : goal.returns
returns t c =
    run-goes-on _ _ _ _ c.next_in.ensures _ _ _ (c.in_ok-option.was ∙ ap Ok c.in-Some.is) _ _ c.take_options.ensures
