-- What a call changes of a table.
use Rattle.std.specs.Prelude.{ℕ, ◌+◌, false, cond}
use Rattle.refusal.specs.declared.Refusal.{Refusal}
use Rattle.block_state.specs.declared.Answer.TheVariants.{Refused}
use Rattle.block_state.specs.declared.Stepped.{Stepped}
use Rattle.keys.specs.declared.Key.{Key}
use Rattle.entries.specs.declared.Entry.{Entry}
use Rattle.entries.specs.Entries.{in_use, start_from, swept, sweep}
use Rattle.block_table.specs.declared.Table.{Table}
use Rattle.entries.specs.Held.{held_by}
use Rattle.block_table.specs.Quick.{figured}
use Rattle.places.specs.declared.Sight.{Sight}
use Rattle.table_change.specs.declared.Change.{Change}

-- The table with a call's change made. The change says what the table holds then.
abbrev pub changed : ℕ → ℕ → Table → Change → Table
changed lifetime time t g = figured g.clock g.held (cond g.freed (sweep lifetime time t.entries) t.entries) g.at g.entry

-- ---- How the code makes a change. No contract of the handler's two calls, nor of an export, cites these.

-- What a refusal by checks 1 to 3 changes of the table that was seen: nothing, since the entry that is seen goes back where it stood.
abbrev pub unchanged : Sight → Refusal → Change
unchanged s n = record { freed = false; clock = s.clock; held = s.held; at = s.at; entry = s.entry; answer = Refused n }

-- The entry that a call on the key starts from, of the one at its place before the sweep.
abbrev pub opened_from : ℕ → ℕ → Key → Entry → Entry
opened_from lifetime time key e = start_from key (swept lifetime time e)

-- What a step on the entry at i leaves, as a change: the others hold what they held.
abbrev pub change_to : Sight → ℕ → ℕ → Key → Stepped → Change
change_to s i time key g =
    record {
      freed = s.freed;
      clock = time;
      held = s.others + held_by (in_use key time g.state);
      at = i;
      entry = in_use key time g.state;
      answer = g.answer;
    }
