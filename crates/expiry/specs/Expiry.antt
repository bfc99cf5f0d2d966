-- Document 01, "Table and clock": expiry, by whether an entry is in use and when it was touched.
use Rattle.std.specs.Prelude.{ℕ, ◌-◌, Bool, ◌&&◌, ltb}

-- "An entry is live while now - touched < lifetime."
abbrev pub live_by : Bool → ℕ → ℕ → ℕ → Bool
live_by used touched lifetime time = used && ltb (time - touched) lifetime
