-- Document 01, "Negotiation", and "unreadable counts as absent".
use Rattle.std.specs.Prelude.{ℕ, ◌+◌, ◌-◌, ◌/◌, min, Bool, true, cond, List, ltb, eqb, Option, Some, None, Result, Ok, Err}
use Rattle.refusal.specs.declared.Refusal.{Refusal}
use Rattle.refusal.specs.declared.Refusal.TheVariants.{TooLargeToEncode, NoBlockValue}
use Rattle.block_value.specs.declared.BlockValue.{BlockValue}
use Rattle.config.specs.declared.Config.{Config}
use Rattle.block_value.specs.Value.{made, block_size, block_start}
use Rattle.block_option.specs.Option.{read_of}

-- An option as the calls are handed it: given or not, and its bytes, which count only if it is given.
abbrev pub option_of : Bool → List ℕ → Option (List ℕ)
option_of given bytes = cond given (Some bytes) None

-- "Unreadable counts as absent."
unfoldable pub request_block : Config → Option (List ℕ) → Option BlockValue
request_block c None = None
request_block c (Some bytes) = read_of c.strict bytes

-- "A make that is refused is refusal 5."
abbrev pub reply_of : Option BlockValue → Result (Option BlockValue) Refusal
reply_of (Some b) = Ok (Some b)
reply_of None = Err NoBlockValue

-- "If g = 0, refusal 5 .. Else make(floor(ks/g), ks + g < p, g)", at offset = ks: g is used unrounded.
unfoldable pub reply_at : Config → ℕ → ℕ → ℕ → Result (Option BlockValue) Refusal
reply_at c offset g p = cond (eqb g 0) (Err NoBlockValue) (reply_of (made c.strict (offset / g) (ltb (offset + g) p) g))

-- "None: p < m gives no block; else make(0, more, m). Given num k, size s: g = min(s, m)."
unfoldable pub within : Config → Option BlockValue → ℕ → ℕ → Result (Option BlockValue) Refusal
within c None p m = cond (ltb p m) (Ok None) (reply_of (made c.strict 0 true m))
within c (Some b) p m = reply_at c (block_start b) (min (block_size b) m) p

-- "If bare + 12 > T: refusal 4. Let m = T - bare - 12." T is the configuration's limit; besides it, the mode counts, where a value is made.
unfoldable pub negotiated : Config → Option BlockValue → ℕ → ℕ → Result (Option BlockValue) Refusal
negotiated c b bare p = cond (ltb c.limit (bare + 12)) (Err TooLargeToEncode) (within c b p (c.limit - bare - 12))
