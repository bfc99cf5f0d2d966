-- What is written: decimals, hex and block values.
use Rattle.std.specs.Prelude.{ℕ, zero, suc, ◌+◌, ◌/◌, ◌%◌, Bool, cond, List, [], ◌∷◌, ◌++◌, ltb, Option, Some, None}
use Rattle.block_value.specs.Value.{block_size}
use Rattle.block_value.specs.declared.BlockValue.{BlockValue}

-- The decimal digits of n, at most as many as the first number says.
unfoldable pub decimal_from : ℕ → ℕ → List ℕ
decimal_from zero n = []
decimal_from (suc k) n = cond (ltb n 10) ((48 + n) ∷ []) (decimal_from k (n / 10) ++ ((48 + n % 10) ∷ []))

-- A number below 2^64 has no more than twenty.
unfoldable pub decimal : ℕ → List ℕ
decimal n = decimal_from 20 n

unfoldable pub hex_digit : ℕ → ℕ
hex_digit d = cond (ltb d 10) (48 + d) (87 + d)

unfoldable pub hex : List ℕ → List ℕ
hex [] = []
hex (b ∷ bs) = hex_digit (b / 16) ∷ hex_digit (b % 16) ∷ hex bs

-- Bytes that are shown: a dot where there are none.
unfoldable pub shown : List ℕ → List ℕ
shown [] = 46 ∷ []
shown (b ∷ bs) = hex (b ∷ bs)

unfoldable pub digit_of : Bool → ℕ
digit_of b = cond b 49 48

-- num/more/size
unfoldable pub block_text : BlockValue → List ℕ
block_text b = decimal b.num ++ (47 ∷ digit_of b.more ∷ 47 ∷ decimal (block_size b))

abbrev pub none : List ℕ
none = 45 ∷ []

abbrev pub maybe_text : Option BlockValue → List ℕ
maybe_text None = none
maybe_text (Some b) = block_text b
