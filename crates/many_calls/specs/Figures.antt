-- THE FIGURE OF THE BYTES HELD IS WHAT A WALK OVER THE ROW COUNTS. Document 02: "Expiry, hand-on, dropping the cache and every refusal keep it equal to the walk." Whatever
-- the configuration, the memories and the calls.
use Rattle.std.specs.Prelude.{true, ◌≡◌, List}
use Rattle.config.specs.declared.Config.{Config}
use Rattle.entries.specs.Held.{held}
use Rattle.block_table.specs.declared.Table.{Table}
use Rattle.block_table.specs.Table.{table_ok, fresh_table}
use Rattle.call.specs.Call.{World, Call}
use Rattle.one_call.specs.Handler.{Handler}
use Rattle.demands.specs.Demand3.{after}

abbrev pub Exact : Table → Type 0
Exact t = t.held ≡ held t.entries

pub record FigureKept (h : Handler) : Type 0 where
  -- Any call keeps it exact, refused or not.
  pub one : (c : Config) (w : World) (q : Call) → Exact w.table → Exact (h c w q).world.table
  -- Of a table within the limits any call leaves one of which it is exact.
  pub within : (c : Config) (w : World) (q : Call) → table_ok c w.table ≡ true → Exact (h c w q).world.table
  -- Any calls keep it exact ..
  pub any : (c : Config) (w : World) (calls : List Call) → Exact w.table → Exact (after h c w calls).table
  -- .. and from a fresh table on it is.
  pub fresh : (c : Config) (w : World) (calls : List Call) → w.table ≡ fresh_table → Exact (after h c w calls).table
