-- What a call is handed besides its time and key. An option is absent, or its bytes.
use Rattle.std.specs.Prelude.{ℕ, Bool, List, Option, Some, None}
use Rattle.block_option.specs.Uint.{Bytes}

-- An option's bytes are bytes: below 256. The code's types give it of every call.
abbrev pub OptionBytes : Option (List ℕ) → Type 0
OptionBytes None = Unit {0}
OptionBytes (Some bytes) = Bytes bytes

-- A request: the length of the message encoded without its payload, its two Block options and its payload.
pub record Request : Type 0 where
  pub bare : ℕ
  pub block1 : Option (List ℕ)
  pub block2 : Option (List ℕ)
  pub payload : List ℕ

-- A response: the same length, whether it has a Block2 option of its own, its encoded header and options, and its payload.
pub record Response : Type 0 where
  pub bare : ℕ
  pub own : Bool
  pub head : List ℕ
  pub payload : List ℕ

pub data What : Type 0 where
  request : Request → What
  response : Response → What

abbrev pub WhatBytes : What → Type 0
WhatBytes (request r) = OptionBytes r.block1 × OptionBytes r.block2
WhatBytes (response r) = Unit {0}
