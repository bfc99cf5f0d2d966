-- WHERE A BLOCK STARTS IS WITHIN 32 BITS: ks of a block value that was read, made or recorded is at most 1,048,575 times 2,048, in either mode; and so is where it ends, with any
-- payload behind it.
use Rattle.std.specs.Prelude.{ℕ, ◌+◌, ◌*◌, ◌≤◌, ◌<◌, ◌^◌, Bool, true, ◌≡◌, List, Some}
use Rattle.block_value.specs.Value.{made, block_size, block_start}
use Rattle.block_value.specs.declared.BlockValue.{BlockValue}
use Rattle.block_option.specs.Uint.{Bytes}
use Rattle.block_option.specs.Option.{read_of}
use Rattle.block_state.specs.declared.Recorded.{Recorded}
use Rattle.block_state.specs.State.{recorded_block, recorded_ok}

abbrev pub StartsLow : BlockValue → Type 0
StartsLow b = (block_start b ≤ 1048575 * 2048) × (block_start b + block_size b + 65535 < 2 ^ 32)

pub record Starts : Type 0 where
  pub read : (strict : Bool) (option : List ℕ) (b : BlockValue) → Bytes option → read_of strict option ≡ Some b → StartsLow b
  pub made : (strict : Bool) (num : ℕ) (more : Bool) (size : ℕ) (b : BlockValue) → made strict num more size ≡ Some b → StartsLow b
  pub recorded : (r : Recorded) (b : BlockValue) → recorded_ok r ≡ true → recorded_block r ≡ Some b → StartsLow b
