-- The laws of the negotiation, by its cases. Assumes nothing.
use Rattle.std.specs.Prelude.{Option, Some, None, Ok, Err}
use mathlib.Core.Path.{◌≡◌, refl}
use mathlib.Core.Bool.{Bool, true, false, cond}
use mathlib.Core.List.{List}
use Prim.Native.Nat.{ℕ, ◌+◌, ◌-◌, ◌/◌, min, ◌≤◌, ◌<◌}
use lib.Dec.{ltb}
use borrow.Author.Tests.{lt-ltb, le-ltb, eq-eqb, ne_eqb}
use Rattle.refusal.specs.declared.Refusal.TheVariants.{TooLargeToEncode, NoBlockValue}
use Rattle.config.specs.declared.Config.{Config}
use Rattle.block_value.specs.Value.{made, block_size, block_start}
use Rattle.block_option.specs.Option.{read_of}
use Rattle.block_value.specs.declared.BlockValue.{BlockValue}
use Rattle.negotiation.specs.Negotiation.{option_of, request_block, reply_of, reply_at, within, negotiated}

-- ---- the option

pub asks : (c : Config) (given : Bool) (bytes : List ℕ) → request_block c (option_of given bytes) ≡ cond given (read_of c.strict bytes) None
unfolding request_block
asks c true bytes = refl
asks c false bytes = refl

-- ---- the reply

pub reply-none : (c : Config) (offset g p : ℕ) → g ≡ 0 → reply_at c offset g p ≡ Err NoBlockValue
unfolding reply_at
reply-none c offset g p h = rw (eq-eqb g 0 h)

pub reply-made : (c : Config) (offset g p : ℕ) → (g ≡ 0 → ⊥) → reply_at c offset g p ≡ reply_of (made c.strict (offset / g) (ltb (offset + g) p) g)
unfolding reply_at
reply-made c offset g p h = rw (ne_eqb g 0 h)

module _ (c : Config) (b : Option BlockValue) (bare p : ℕ) where
  pub no_room_lem : c.limit < bare + 12 → negotiated c b bare p ≡ Err TooLargeToEncode
  unfolding negotiated
  no_room_lem h = rw (lt-ltb c.limit (bare + 12) h)

  pub with-room : (m : ℕ) → bare + 12 ≤ c.limit → m ≡ c.limit - bare - 12 → negotiated c b bare p ≡ within c b p m
  unfolding negotiated
  with-room m h e = rw (le-ltb c.limit (bare + 12) h, e)

module _ (c : Config) (b : Option BlockValue) (p m : ℕ) where
  pub absent-fits : b ≡ None → p < m → within c b p m ≡ Ok None
  unfolding within
  absent-fits e h = rw (e, lt-ltb p m h)

  pub absent-large : b ≡ None → m ≤ p → within c b p m ≡ reply_of (made c.strict 0 true m)
  unfolding within
  absent-large e h = rw (e, le-ltb p m h)

  pub given-at : (x : BlockValue) → b ≡ Some x → within c b p m ≡ reply_at c (block_start x) (min (block_size x) m) p
  unfolding within
  given-at x e = rw e
