-- The figure of the bytes held, over a call and over any calls. Assumes nothing.
use mathlib.Core.Path.{refl}
use mathlib.Core.List.{List, [], ◌∷◌}
use Rattle.config.specs.declared.Config.{Config}
use Rattle.block_state.specs.Message.{What, request, response}
use Rattle.block_table.proofs.TableFits.{table_fits}
use Rattle.key_place.specs.Place.{place}
use Rattle.places.specs.Places.{opened}
use Rattle.call.specs.Call.{World, Call, row_of, call_at, call}
use Rattle.call.proofs.Frame.{call-cases}
use Rattle.one_call.specs.Handler.{Handler}
use Rattle.demands.specs.Demand3.{after}
use Rattle.demands.specs.Compiled.{KeepsContract}
use Rattle.demands.proofs.Compiled.{of-all-that-keep}
use Rattle.many_calls.specs.Figures.{Exact, FigureKept}

one : (c : Config) (w : World) (q : Call) → Exact w.table → Exact (call c w q).world.table
unfolding call_at
one c w q exact = call-cases (λ d. Exact d.world.table) c w q (λ n. exact) (λ named ok later p. placed q.what)
  where
    placed : (x : What) → Exact (call_at c w q.time (row_of c w q) (place q.key (row_of c w q)) (opened q.key (row_of c w q)) x).world.table
    placed (request r) = refl
    placed (response r) = refl

any : (c : Config) (w : World) (calls : List Call) → Exact w.table → Exact (after call c w calls).table
any c w [] exact = exact
any c w (q ∷ calls) exact = any c (call c w q).world calls (one c w q exact)

pub figure-kept : FigureKept call
figure-kept =
    record {
      one = one;
      within = λ c w q ok. one c w q (table_fits c w.table ok).figure;
      any = any;
      fresh = λ c w calls is. any c w calls (rw is);
    }

-- so it is of the compiled calls
pub kept-figure : (h : Handler) → KeepsContract h → FigureKept h
kept-figure = of-all-that-keep FigureKept figure-kept
