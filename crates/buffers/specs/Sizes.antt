-- The sizes of what a program lends.
use Rattle.std.specs.Prelude.{ℕ, ◌+◌, ◌*◌, min}

-- The bytes of a line's fields: half of the longest line.
abbrev pub scratch_size : ℕ
scratch_size = 100000

-- The longest piece that a program lends, and a memory of sixteen.
abbrev pub piece_size : ℕ
piece_size = 65536

abbrev pub memory_size : ℕ
memory_size = 1048576

-- The length of a memory of sixteen pieces, each no longer than the longest.
abbrev pub memory_of : ℕ → ℕ
memory_of piece = 16 * min piece piece_size

-- What a line prints at most: a whole memory in hex, and what stands before it.
abbrev pub line_room : ℕ
line_room = 2 * memory_size + 200

-- What waits, and a line behind it.
abbrev pub output_size : ℕ
output_size = 2200000
