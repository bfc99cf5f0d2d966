-- How the code tests one entry quickly. No contract of the handler's two calls, nor of an export, cites this.
use Rattle.std.specs.Prelude.{ℕ, ◌*◌, Bool, cond, not, ◌&&◌, ◌||◌}
use Rattle.entries.specs.declared.Entry.{Entry}
use Rattle.keys.specs.Keys.{Name, same, key_of, key_sized, tag_of as key_tag}
use Rattle.entries.specs.Entries.{unused, live}

-- A number that entries in use have in common if their keys are the same. The number of a free entry is even, and apart from every other's.
unfoldable pub tag_of : Entry → ℕ → ℕ
tag_of e i = cond e.used (key_tag (key_of e.key)) (i * 2)

-- What a sweep leaves in use for the key, and what it leaves free, seen before the sweep.
unfoldable pub holds_live : ℕ → ℕ → Name → Entry → Bool
holds_live lifetime time k e = live lifetime time e && same k (key_of e.key)

abbrev pub not_live : ℕ → ℕ → Entry → Bool
not_live lifetime time e = not (live lifetime time e)

-- What the types give of a free entry: the bytes of its key are 64.
unfoldable pub sized : Entry → Bool
sized e = e.used || key_sized e.key

-- Free, or live: a sweep leaves it as it is, if the table is within its limits.
unfoldable pub unexpired : ℕ → ℕ → Entry → Bool
unexpired lifetime time e = unused e || live lifetime time e
