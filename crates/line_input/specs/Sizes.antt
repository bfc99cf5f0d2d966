-- How much is read at once.
use Rattle.std.specs.Prelude.{ℕ}

-- The longest line that any program reads.
abbrev pub longest : ℕ
longest = 200000

-- A line that has not ended, of one byte more than the longest at most, and what is read behind it.
abbrev pub text_size : ℕ
text_size = 265537
