-- Document 01, "Numbers fixed": the limits of the configuration and of the memories (refusal 1).
use Rattle.std.specs.Prelude.{ℕ, ◌*◌, Bool, ◌&&◌, leb, eqb}
use Rattle.config.specs.declared.Config.{Config}

abbrev pub between : ℕ → ℕ → ℕ → Bool
between least n most = leb least n && leb n most

-- V is "16 to 65,536", "Message limit T is 1 to 65,535", "Lifetime is 1 to 4,294,967,295 ms"; U is from 16 on, and "the limit of U rises to 16,777,216 in both modes" (document 02).
unfoldable pub config_ok : Config → Bool
config_ok c =
    between 1 c.limit 65535 && between 1 c.lifetime 4294967295 && between 16 c.upload 16777216 && between 16 c.response 65536

-- "The memories are exactly 16U and 16V long"; u and v are their lengths.
unfoldable pub memories_ok : Config → ℕ → ℕ → Bool
memories_ok c u v = eqb u (16 * c.upload) && eqb v (16 * c.response)
