-- What sets the modes' block values apart: two numbers, and what follows from the first. Document 01 has plain mode's, and document 02 strict mode's (T-03, "Longer lists").
use Rattle.std.specs.Prelude.{ℕ, ◌-◌, ◌*◌, ◌^◌, Bool, cond}

-- The most bytes of an option that is read: "at most 2 bytes"; "in strict mode a Block option may have 3 bytes".
unfoldable pub byte_limit : Bool → ℕ
byte_limit strict = cond strict 3 2

-- The largest num that is made: "a num above 65,535 is refused"; "in strict mode 5 is given above 1,048,575 instead of 65,535".
unfoldable pub num_limit : Bool → ℕ
num_limit strict = cond strict 1048575 65535

-- How many nums an option of so many bytes can hold: all its bits are num's but four. So a num that is read is "at most 4095", and in strict mode "up to 1,048,575". There all
-- that is made is written whole; in plain mode a num from 4096 on is written modulo 4096.
unfoldable pub nums : Bool → ℕ
nums strict = 2 ^ (8 * byte_limit strict - 4)
