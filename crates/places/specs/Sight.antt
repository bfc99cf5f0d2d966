-- What a call sees of the table, and how the code gets to see it. No contract of the handler's two calls, nor of an export, cites this.
use Rattle.std.specs.Prelude.{ℕ, ◌+◌, ◌-◌, ◌^◌, ◌<◌, Bool, true, false, cond, not, ◌&&◌, ◌||◌, List, Option, Some, None as Nowhere, ◌≡◌, length, ltb}
use Rattle.std.specs.Option.{option_or}
use Rattle.config.specs.declared.Config.{Config}
use Rattle.keys.specs.Lists.{all}
use Rattle.keys.specs.Keys.{Name, key_ok}
use Rattle.entries.specs.declared.Entry.{Entry}
use Rattle.entries.specs.Entries.{entry_ok, swept, sweep}
use Rattle.entries.specs.Held.{held_by, held}
use Rattle.entries.specs.Quick.{not_live, sized, unexpired}
use Rattle.block_table.specs.declared.Table.{Table}
use Rattle.block_table.specs.Table.{table_ok, at}
use Rattle.places.specs.declared.Seen.{Seen}
use Rattle.places.specs.declared.Sight.{Sight}
use Rattle.places.specs.declared.Place.{Place}
use Rattle.places.specs.declared.Place.TheVariants.{At, None, OffLimits}
use Rattle.places.specs.Places.{standing, place_of}

-- The key's place in the row that a sweep leaves.
unfoldable pub place_in : Config → ℕ → Name → Table → Place
place_in c time k t = cond (key_ok k && table_ok c t) (place_of k (sweep c.lifetime time t.entries)) OffLimits

-- An entry's index, which is below 16; else the first.
abbrev pub index : ℕ → ℕ
index i = cond (ltb i 16) i 0

-- The index of a place; else the first.
abbrev pub index_of : Place → ℕ
index_of (At i) = index i
index_of None = 0
index_of OffLimits = 0

-- What the entries that a sweep keeps hold, but for entry i.
abbrev pub held_beside : ℕ → ℕ → List Entry → ℕ → ℕ
held_beside lifetime time l i = held (sweep lifetime time l) - held_by (swept lifetime time (at l i))

-- What is seen of the table by a call whose key has this place.
unfoldable pub sight_at : Config → ℕ → Table → Place → Sight
sight_at c time t p =
    record {
      clock = t.clock;
      held = t.held;
      place = p;
      at = index_of p;
      entry = at t.entries (index_of p);
      freed = not (all (unexpired c.lifetime time) t.entries);
      others = held_beside c.lifetime time t.entries (index_of p);
    }

-- The sight of the table for a call with this key; and what the types give of a row: sixteen entries, 64 key bytes in each free one, and a bound on what the others hold.
abbrev pub Sees : Config → ℕ → Name → Table → Sight → Type 0
Sees c time k t s = (s ≡ sight_at c time t (place_in c time k t)) × (length t.entries ≡ 16) × (all sized t.entries ≡ true) × (s.others < 2 ^ 60)

-- What is seen before any entry is looked at; `ok` says that the key is within its limits.
abbrev pub nothing_seen : Bool → Seen
nothing_seen ok = record { ok = ok; freed = false; free = Nowhere; counted = 0; gone = 0 }

-- What is seen once entry i is looked at.
abbrev pub seen_next : Config → ℕ → ℕ → Seen → ℕ → Entry → Seen
seen_next c clock time s i e =
    record {
      ok = s.ok && entry_ok c clock e;
      freed = s.freed || not (unexpired c.lifetime time e);
      free = cond (not_live c.lifetime time e) (option_or s.free (Some i)) s.free;
      counted = s.counted + held_by e;
      gone = s.gone + (held_by e - held_by (swept c.lifetime time e));
    }

-- The key's place by the tags: `free` is the first entry that is not live, `first` the first with the key's own tag, and `holds` says that this entry holds the key.
-- Where two tags are equal they do not tell.
abbrev pub quick_place : Bool → Option ℕ → Bool → Option ℕ → Bool → Option Place
quick_place ok free apart first holds = cond ok (cond apart (Some (standing (cond holds (option_or first free) free))) Nowhere) (Some OffLimits)

-- The place by a quick look, or, where it does not tell, this one.
abbrev pub settled : Option Place → Place → Place
settled (Some p) q = p
settled Nowhere q = q
