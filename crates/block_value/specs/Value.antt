-- Document 01, "Block value": what make and size come to, and where a block starts. Make takes the mode.
use Rattle.std.specs.Prelude.{ℕ, zero, suc, ◌+◌, ◌-◌, ◌*◌, ◌%◌, ◌^◌, Bool, cond, leb, ltb, eqb, Option, Some, None}
use Rattle.config.specs.Mode.{num_limit}
use Rattle.block_value.specs.declared.BlockValue.{BlockValue}

-- The exponent of the largest power of two not above the size, of those up to `most`.
unfoldable pub largest_power : ℕ → ℕ → ℕ
largest_power zero size = 0
largest_power (suc most) size = cond (leb (2 ^ suc most) size) (suc most) (largest_power most size)

-- "The exponent is that of the largest power of two not above size, less 4, but never below 0." (A size is below 2 ^ 64.)
abbrev pub exponent_of : ℕ → ℕ
exponent_of size = largest_power 63 size - 4

-- "Size 0 is refused; .. an exponent above 7 or a num above 65,535 is refused", or above the limit of the mode (document 02).
unfoldable pub made : Bool → ℕ → Bool → ℕ → Option BlockValue
made strict num more size =
    cond (eqb size 0) None
    (cond (ltb 7 (exponent_of size)) None
    (cond (ltb (num_limit strict) num) None
    (Some (record { num = num; more = more; size_exponent = exponent_of size }))))

-- "Its size is 2 to the power exponent + 4." An exponent is three bits: of a larger byte only those count.
unfoldable pub size_of : ℕ → ℕ
size_of exponent = 2 ^ (exponent % 8 + 4)

-- Of a block value: its size s, and where it starts, ks for its num k.
abbrev pub block_size : BlockValue → ℕ
block_size b = size_of b.size_exponent

abbrev pub block_start : BlockValue → ℕ
block_start b = b.num * block_size b
