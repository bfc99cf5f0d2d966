-- A request's Block1 value (document 01, "A request call", step 2, and "Strict mode"): whether its block is taken, and what that leaves of the key's piece.
use Rattle.std.specs.Prelude.{ℕ, ◌≤◌, Bool, cond, not, ◌&&◌, ◌||◌, List, leb, ltb, eqb, Result, Ok, Err}
use Rattle.refusal.specs.declared.Refusal.{Refusal}
use Rattle.refusal.specs.declared.Refusal.TheVariants.{NotNext, BadForm}
use Rattle.splicing.specs.Splice.{splice_of, piece_after}
use Rattle.config.specs.declared.Config.{Config}
use Rattle.block_value.specs.Value.{block_size, block_start}
use Rattle.block_value.specs.declared.BlockValue.{BlockValue}
use Rattle.block_state.specs.declared.Assembled.{Assembled}
use Rattle.request_block1.specs.declared.Taken.{Taken}
use Rattle.request_block1.specs.declared.Taken.TheVariants.{More, Body}

-- ---- Strict mode

-- "Exponent 7, or p > s, or more with p not s, is refusal 10."
unfoldable pub bad_form : BlockValue → ℕ → Bool
bad_form b p = eqb b.size_exponent 7 || ltb (block_size b) p || b.more && not (eqb p (block_size b))

-- "Any other num is refusal 9 unless a = L" and the exponent is not above the kept one: 9 "is now given for a wrong start or a rising exponent" (document 02).
unfoldable pub not_next : Assembled → BlockValue → Bool
not_next a b = not (eqb b.num 0) && not (eqb (block_start b) a.len && leb b.size_exponent a.exponent)

-- The assembled length that a block meets: in strict mode "num 0 starts afresh, the old assembly counting as empty".
unfoldable pub length_met : Bool → Assembled → BlockValue → ℕ
length_met strict a b = cond (strict && eqb b.num 0) 0 a.len

-- ---- The block is taken

-- Step 2, once it is spliced to n bytes: the next block is awaited "if more. .. Otherwise the body is complete".
abbrev pub taken_as : Bool → Result ℕ Refusal → Result Taken Refusal
taken_as more (Err n) = Err n
taken_as more (Ok n) = Ok (cond more (More n) (Body n))

-- Strict mode's two checks, then step 2: "Block1 given: splice". The payload has p bytes.
unfoldable pub taken : Config → Assembled → BlockValue → ℕ → Result Taken Refusal
taken c a b p =
    cond (c.strict && bad_form b p) (Err BadForm)
    (cond (c.strict && not_next a b) (Err NotNext)
    (taken_as b.more (splice_of c.upload (length_met c.strict a b) (block_start b) (block_size b) p)))

-- What that leaves of the piece: a refusal leaves all of it.
abbrev pub piece_taken : Config → Assembled → List ℕ → BlockValue → List ℕ → Result Taken Refusal → List ℕ
piece_taken c a u b payload (Err n) = u
piece_taken c a u b payload (Ok n) = piece_after u (length_met c.strict a b) (block_start b) (block_size b) payload

-- No more than `most` bytes are assembled.
abbrev pub AtMost : ℕ → Result Taken Refusal → Type 0
AtMost most (Err n) = Unit {0}
AtMost most (Ok (More n)) = n ≤ most
AtMost most (Ok (Body n)) = n ≤ most
