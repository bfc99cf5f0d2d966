-- Document 01, "Block value": what read and write come to, on lists of bytes. Both take the mode, which says how many bytes an option may have, and so which nums it can hold
-- (document 02).
use Rattle.std.specs.Prelude.{ℕ, ◌+◌, ◌*◌, ◌/◌, ◌%◌, Bool, cond, List, [], ◌∷◌, ◌++◌, ltb, eqb, length, take, Option, Some, None}
use Rattle.config.specs.Mode.{byte_limit, nums}
use Rattle.block_value.specs.declared.BlockValue.{BlockValue}
use Rattle.block_option.specs.declared.Written.{Written}
use Rattle.block_option.specs.Uint.{uint, shortest}

-- "Low 3 bits exponent, next bit more, the rest num."
abbrev pub unpacked : ℕ → BlockValue
unpacked scalar = record { num = scalar / 16; more = eqb (scalar / 8 % 2) 1; size_exponent = scalar % 8 }

-- "An option of at most 2 bytes", or as many as the mode allows, "big-endian, empty meaning 0. .. A longer option is unreadable."
unfoldable pub read_of : Bool → List ℕ → Option BlockValue
read_of strict option = cond (ltb (byte_limit strict) (length option)) None (Some (unpacked (uint option)))

-- "Num*16 + 8 if more + exponent, num taken modulo 4096", and in strict mode, by the same rule, modulo 1,048,576. Of an exponent above 7, which neither make nor read gives,
-- the low three bits count.
abbrev pub packed : Bool → BlockValue → ℕ
packed strict b = b.num % nums strict * 16 + cond b.more 8 0 + b.size_exponent % 8

abbrev pub written : Bool → BlockValue → List ℕ
written strict b = shortest 3 (packed strict b)

-- A list of at most three bytes as the code returns it.
abbrev pub in_three : List ℕ → Written
in_three bytes = record { len = length bytes; bytes = take 3 (bytes ++ (0 ∷ 0 ∷ 0 ∷ [])) }
