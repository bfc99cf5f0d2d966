-- RFC 7959's own account of a Block option, apart from document 01's: an unsigned integer of 0 to 3 bytes that holds NUM, M and SZX. And what each mode keeps of it.
use Rattle.std.specs.Prelude.{ℕ, ◌+◌, ◌*◌, ◌^◌, ◌≤◌, ◌<◌, Bool, true, false, cond, ◌≡◌, List, length, Some, None}
use Rattle.block_value.specs.Value.{size_of}
use Rattle.block_value.specs.declared.BlockValue.{BlockValue}
use Rattle.block_option.specs.Uint.{uint, Bytes}
use Rattle.block_option.specs.Option.{read_of, written}

-- The option holds NUM in the bits above the low four, M in bit 3 and SZX in the low three (RFC 7959, section 2.2).
pub record Holds (option : List ℕ) (num : ℕ) (more : Bool) (szx : ℕ) : Type 0 where
  pub bytes : Bytes option
  pub few : length option ≤ 3
  pub scalar : uint option ≡ num * 16 + cond more 8 0 + szx
  pub three-bits : szx < 8

-- The size is 2 to the power SZX + 4; the RFC reserves SZX 7, so that a size is 16 to 1024. The block starts at NUM times the size.
abbrev pub bytes_in : ℕ → ℕ
bytes_in szx = 2 ^ (szx + 4)

-- No bytes that spell the same number are fewer: the form in which an unsigned integer is sent.
unfoldable pub Fewest : List ℕ → Type 0
Fewest option = (other : List ℕ) → Bytes other → uint other ≡ uint option → length option ≤ length other

-- The option holds this block value.
abbrev pub HoldsBlock : List ℕ → BlockValue → Type 0
HoldsBlock option b = Holds option b.num b.more b.size_exponent

-- What reading and writing in a mode keep of it, for options of at most `most` bytes and for nums of at most `last`. (The reserved SZX 7 is read and written like any other:
-- a difference, which is listed.)
pub record AsTheRfc (strict : Bool) (most last : ℕ) : Type 0 where
  -- Such an option is read, whether or not it is the shortest form, and as what it holds: it holds one value and no other.
  pub read : (option : List ℕ) → Bytes option → length option ≤ most → (b : BlockValue) × (read_of strict option ≡ Some b) × HoldsBlock option b × (b.num ≤ last)
  pub one : (option : List ℕ) → length option ≤ most → (b : BlockValue) → HoldsBlock option b → read_of strict option ≡ Some b
  -- A longer one is not.
  pub unread : (option : List ℕ) → most < length option → read_of strict option ≡ None
  -- What is written is the shortest form, which holds the value and is read as it.
  pub write : (b : BlockValue) → b.num ≤ last → b.size_exponent ≤ 7
      → HoldsBlock (written strict b) b × Fewest (written strict b) × (length (written strict b) ≤ most) × (read_of strict (written strict b) ≡ Some b)

-- Strict mode keeps the RFC's layout whole: 3 bytes, and a num of 20 bits. Plain mode keeps two bytes, and 12 bits. And for SZX 0 to 6 the size is the RFC's.
pub record BothModes : Type 0 where
  pub strict : AsTheRfc true 3 1048575
  pub plain : AsTheRfc false 2 4095
  pub size : (szx : ℕ) → szx ≤ 6 → size_of szx ≡ bytes_in szx
