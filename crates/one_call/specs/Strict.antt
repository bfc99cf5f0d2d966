-- STRICT MODE SAYS NO. Whatever the table, the memories and the call: in strict mode no block is taken unless it is well formed and, but for block 0,
-- the next. And a block that passes checks 1 to 5 and is not gets 10 or 9, 10 before 9, and changes nothing but the touch. AND IT SAYS YES to every other one that fits its piece.
use Rattle.std.specs.Prelude.{ℕ, ◌+◌, ◌≤◌, ◌<◌, Bool, true, false, ◌≡◌, ◌⊎◌, List, [], ◌∷◌, length, Option, Some, None, Ok}
use Rattle.refusal.specs.declared.Refusal.TheVariants.{NotNext, BadForm}
use Rattle.block_value.specs.Value.{block_size, block_start}
use Rattle.block_value.specs.declared.BlockValue.{BlockValue}
use Rattle.negotiation.specs.Negotiation.{request_block, negotiated}
use Rattle.config.specs.declared.Config.{Config}
use Rattle.config.specs.Mode.{num_limit}
use Rattle.block_state.specs.declared.Assembled.{Assembled}
use Rattle.block_state.specs.declared.Part.{Part}
use Rattle.block_state.specs.declared.Answer.{Answer}
use Rattle.block_state.specs.declared.Answer.TheVariants.{Continue, TooLarge, Handed, Pass, Served, Plain, Whole, First, Refused}
use Rattle.block_state.specs.Message.{Request, Response, request, response}
use Rattle.key_place.specs.Place.{place}
use Rattle.places.specs.Places.{opened}
use Rattle.call.specs.Call.{World, Call, row_of}
use Rattle.pairing.specs.Pairing.{room_of, granted, num_for}
use Rattle.one_call.specs.Handler.{Handler, entry_at}
use Rattle.one_call.specs.Touch.{Placed, RefusesTo}
use Rattle.one_call.specs.Agreed.{recorded_for}

abbrev pub is_given : Option BlockValue → Bool
is_given None = false
is_given (Some b) = true

-- The answer says that a block was taken: Continue, Handed, or a Served that carries Block1 too. (A refusal 8 may follow a body completed; it says nothing of it.)
abbrev pub took_block : Answer → Bool
took_block (Continue b) = true
took_block (TooLarge b) = false
took_block (Handed b body) = true
took_block Pass = false
took_block (Served s) = is_given s.block1
took_block Plain = false
took_block (Whole b chunk) = false
took_block (First b chunk) = false
took_block (Refused n) = false

-- What the call's key has assembled when the call comes: the length L and the kept exponent; zeros where it has no live entry.
abbrev pub assembled_for : Config → World → Call → Assembled
assembled_for c w q = (opened q.key (row_of c w q)).state.assembled

-- ---- A block that was taken

pub record RightlyTaken (c : Config) (l : Assembled) (r : Request) (b : BlockValue) : Type 0 where
  -- b is the request's Block1 value.
  pub given : request_block c r.block1 ≡ Some b
  -- Its exponent is at most 6, its payload no longer than its size, and just as long if it is marked "more".
  pub exponent : b.size_exponent ≤ 6
  pub short : length r.payload ≤ block_size b
  pub full : b.more ≡ true → length r.payload ≡ block_size b
  -- If it is not block 0, it starts where the assembly ends, and its exponent is at most the kept one.
  pub next : (b.num ≡ 0 → ⊥) → (block_start b ≡ l.len) × (b.size_exponent ≤ l.exponent)

-- ---- A block that is refused

-- Badly formed: exponent 7, or longer than its size, or marked and not full.
abbrev pub BadlyFormed : BlockValue → ℕ → Type 0
BadlyFormed b p = (b.size_exponent ≡ 7) ⊎ (block_size b < p) ⊎ ((b.more ≡ true) × (p ≡ block_size b → ⊥))

-- Misplaced: not block 0, and starting elsewhere than where the assembly ends, or with an exponent above the kept one.
abbrev pub Misplaced : Assembled → BlockValue → Type 0
Misplaced l b = (b.num ≡ 0 → ⊥) × ((block_start b ≡ l.len → ⊥) ⊎ (l.exponent < b.size_exponent))

-- A request with Block1 value b that passes checks 1 to 3 (`Placed`), and 4 and 5: a block is agreed on.
pub record PassesFive (c : Config) (w : World) (q : Call) (r : Request) (b : BlockValue) : Type 0 where
  pub asks : q.what ≡ request r
  pub given : request_block c r.block1 ≡ Some b
  pub placed : Placed c w q
  pub reply : BlockValue
  pub agreed : negotiated c (Some b) r.bare (length r.payload) ≡ Ok (Some reply)

-- ---- All else

-- The same configuration, in plain mode.
abbrev pub plainly : Config → Config
plainly c = record { strict = false; limit = c.limit; lifetime = c.lifetime; upload = c.upload; response = c.response }

-- The request p says in plain mode what r says in strict mode: all is the same but the options' bytes, and those are read as the same values. (`ReadAlike` says of which it holds.)
pub record SaysTheSame (c : Config) (r p : Request) : Type 0 where
  pub bare : p.bare ≡ r.bare
  pub payload : p.payload ≡ r.payload
  pub block1 : request_block (plainly c) p.block1 ≡ request_block c r.block1
  pub block2 : request_block (plainly c) p.block2 ≡ request_block c r.block2

-- The call with this request in place of its own.
abbrev pub saying : Call → Request → Call
saying q p = record { time = q.time; key = q.key; what = request p }

-- The reply's num is one that only strict mode makes (document 02): above plain mode's limit, and not above strict mode's.
abbrev pub OnlyStrictMakes : Config → Option BlockValue → ℕ → Type 0
OnlyStrictMakes c b bare =
    (granted b (room_of c bare) ≡ 0 → ⊥) × (num_limit false < num_for b (granted b (room_of c bare))) × (num_for b (granted b (room_of c bare)) ≤ num_limit true)

-- A block that strict mode has nothing to say of: well formed, not misplaced, and if it is block 0, over nothing assembled.
pub record Fine (l : Assembled) (p : ℕ) (b : BlockValue) : Type 0 where
  pub well : BadlyFormed b p → ⊥
  pub next : Misplaced l b → ⊥
  pub afresh : b.num ≡ 0 → l.len ≡ 0

pub record StrictSaysNo (h : Handler) : Type 0 where
  -- Any answer that says that a block was taken is given rightly.
  pub taken : (c : Config) (w : World) (q : Call) (r : Request) → c.strict ≡ true → q.what ≡ request r → took_block (h c w q).answer ≡ true
      → (b : BlockValue) × RightlyTaken c (assembled_for c w q) r b
  -- Badly formed: 10, misplaced or not. (So 10 stands before 9.)
  pub ten : (c : Config) (w : World) (q : Call) (r : Request) (b : BlockValue) → c.strict ≡ true → PassesFive c w q r b
      → BadlyFormed b (length r.payload) → RefusesTo BadForm h c w q
  -- And 10 only then, in strict mode.
  pub ten_only : (c : Config) (w : World) (q : Call) (r : Request) → q.what ≡ request r → (h c w q).answer ≡ Refused BadForm
      → (c.strict ≡ true) × (b : BlockValue) × (request_block c r.block1 ≡ Some b) × BadlyFormed b (length r.payload)
  -- Well formed and misplaced: 9.
  pub nine : (c : Config) (w : World) (q : Call) (r : Request) (b : BlockValue) → c.strict ≡ true → PassesFive c w q r b
      → (BadlyFormed b (length r.payload) → ⊥) → Misplaced (assembled_for c w q) b → RefusesTo NotNext h c w q
  -- And 9 only then, in strict mode.
  pub nine_only : (c : Config) (w : World) (q : Call) (r : Request) → q.what ≡ request r → (h c w q).answer ≡ Refused NotNext
      → (c.strict ≡ true) × (b : BlockValue) × (request_block c r.block1 ≡ Some b) × (BadlyFormed b (length r.payload) → ⊥) × Misplaced (assembled_for c w q) b
  -- "All else is as in plain mode": a request with no Block1 value or a fine one, and any response, is answered and leaves just what it does in plain mode, unless the
  -- reply's num is one that only strict mode makes.
  pub all_else : (c : Config) (w : World) (q : Call) (r p : Request) → q.what ≡ request r → SaysTheSame c r p
      → (OnlyStrictMakes c (request_block c r.block1) r.bare → ⊥)
      → ((b : BlockValue) → request_block c r.block1 ≡ Some b → Fine (assembled_for c w q) (length r.payload) b) → h c w q ≡ h (plainly c) w (saying q p)
  pub responses : (c : Config) (w : World) (q : Call) (r : Response) → q.what ≡ response r
      → (r.own ≡ false → OnlyStrictMakes c (recorded_for c w q) r.bare → ⊥) → h c w q ≡ h (plainly c) w q

-- Which options both modes read alike: none, and every one that has not just three bytes. And one of three bytes that starts with a zero is read in strict mode as the other
-- two are in plain mode.
pub record ReadAlike : Type 0 where
  pub absent : (c : Config) → request_block (plainly c) None ≡ request_block c None
  pub given : (c : Config) (bytes : List ℕ) → (length bytes ≡ 3 → ⊥) → request_block (plainly c) (Some bytes) ≡ request_block c (Some bytes)
  pub shorter : (c : Config) (a b : ℕ) → c.strict ≡ true → request_block (plainly c) (Some (a ∷ b ∷ [])) ≡ request_block c (Some (0 ∷ a ∷ b ∷ []))

-- ---- And yes

-- A block that passes checks 1 to 5, is well formed and not misplaced, and whose payload the piece holds. (That its message leaves room for its size is not asked.)
pub record Takable (c : Config) (w : World) (q : Call) (r : Request) (b : BlockValue) : Type 0 where
  pub five : PassesFive c w q r b
  pub well : BadlyFormed b (length r.payload) → ⊥
  pub next : Misplaced (assembled_for c w q) b → ⊥
  pub fits : block_start b + length r.payload ≤ c.upload

-- What its key has assembled once the call was made.
abbrev pub left_assembled : Handler → Config → World → Call → Assembled
left_assembled h c w q = (entry_at (h c w q).world (place q.key (row_of c w q))).state.assembled

pub record StrictSaysYes (h : Handler) : Type 0 where
  -- Marked, it is answered Continue with the value that was agreed on. What is assembled ends where it ends, and its exponent is the one kept: "that of the last block taken".
  pub more : (c : Config) (w : World) (q : Call) (r : Request) (b : BlockValue) → c.strict ≡ true → (t : Takable c w q r b) → b.more ≡ true
      → ((h c w q).answer ≡ Continue t.five.reply) × (left_assembled h c w q ≡ record { len = block_start b + block_size b; exponent = b.size_exponent })
  -- Unmarked, it completes the body: nothing is assembled any more, whatever its Block2 is answered.
  pub ends : (c : Config) (w : World) (q : Call) (r : Request) (b : BlockValue) → c.strict ≡ true → Takable c w q r b → b.more ≡ false
      → left_assembled h c w q ≡ record { len = 0; exponent = 0 }
  -- And it is Handed with the value that was agreed on, where no response can be served: it has no Block2, or nothing is cached for its key.
  pub last : (c : Config) (w : World) (q : Call) (r : Request) (b : BlockValue) → c.strict ≡ true → (t : Takable c w q r b) → b.more ≡ false
      → (request_block c r.block2 ≡ None) ⊎ ((opened q.key (row_of c w q)).state.cached.held ≡ false)
      → (body : Part) × ((h c w q).answer ≡ Handed t.five.reply body)
