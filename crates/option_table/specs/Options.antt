-- The options that RFC 7252, RFC 7641 and RFC 7959 register.
use Rattle.std.specs.Prelude.{ℕ, cond, ◌&&◌, List, [], ◌∷◌, map, leb, eqb}
use Rattle.option_table.specs.declared.Length.{Length}
use Rattle.option_table.specs.declared.Length.TheVariants.{Unknown, Allowed, NotAllowed}

-- An option's number, and the least and the most bytes that its value may have.
pub record Row : Type 0 where
  pub number : ℕ
  pub least : ℕ
  pub most : ℕ

abbrev row : ℕ → ℕ → ℕ → Row
row number least most = record { number = number; least = least; most = most }

abbrev pub table : List Row
table =
    row 1 0 8  -- If-Match
    ∷ row 3 1 255  -- Uri-Host
    ∷ row 4 1 8  -- ETag
    ∷ row 5 0 0  -- If-None-Match
    ∷ row 6 0 3  -- Observe
    ∷ row 7 0 2  -- Uri-Port
    ∷ row 8 0 255  -- Location-Path
    ∷ row 11 0 255  -- Uri-Path
    ∷ row 12 0 2  -- Content-Format
    ∷ row 14 0 4  -- Max-Age
    ∷ row 15 0 255  -- Uri-Query
    ∷ row 17 0 2  -- Accept
    ∷ row 20 0 255  -- Location-Query
    ∷ row 23 0 3  -- Block2
    ∷ row 27 0 3  -- Block1
    ∷ row 28 0 4  -- Size2
    ∷ row 35 1 1034  -- Proxy-Uri
    ∷ row 39 1 255  -- Proxy-Scheme
    ∷ row 60 0 4  -- Size1
    ∷ []

abbrev pub limited : ℕ → ℕ → ℕ → Length
limited least most len = cond (leb least len && leb len most) Allowed NotAllowed

-- What the row with a number says of a length.
unfoldable pub look_up : List Row → ℕ → ℕ → Length
look_up [] number len = Unknown
look_up (r ∷ rest) number len = cond (eqb r.number number) (limited r.least r.most len) (look_up rest number len)

unfoldable pub allowed_of : ℕ → ℕ → Length
allowed_of = look_up table

-- A row, and the numbers of a list of rows, as the code has them.
abbrev pub row_of : Row → ℕ × ℕ × ℕ
row_of r = (r.number, r.least, r.most)

abbrev pub numbers : List Row → List ℕ
numbers = map (λ (r : Row). r.number)
