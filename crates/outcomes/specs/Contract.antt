-- The contract of an exported call: its answer, the table and every byte of both memories are the definition's.
use Rattle.std.specs.Prelude.{◌≡◌}
use Rattle.config.specs.declared.Config.{Config}
use Rattle.call.specs.Call.{World, Call, call}
use Rattle.replies.specs.declared.Reply.{Reply}
use Rattle.replies.specs.Reply.{reply_of}

-- From this table and these memories, the call leaves those and answers with these numbers.
abbrev pub Replies : Config → World → Call → World → Reply → Type 0
Replies c w q w' r = (w' ≡ (call c w q).world) × (r ≡ reply_of (call c w q).answer)
