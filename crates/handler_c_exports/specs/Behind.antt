-- What is exported has the clauses, word for word, of the function of `handler_c` behind it, about which the theorems of `demands_c` are: `clauses` are a function's own contract, as
-- the checker holds it.
use Rattle.std.specs.Prelude.{◌≡◌}
use seplogic.Ra.Ura.{Ura}
use base.Logic.{SProp}
use prog.Memory.{Memory}
use prog.Routine.{Routine}
use types.Logic.{Logic}
use contract.Monad.{Fun}
use contract.Lifetimes.{Lfts}
use denote.Triple.Entry.{Args}
use Rattle.handler_c.specs.contracts.block_handler_default_config as default_config_behind
use Rattle.handler_c_exports.specs.contracts.block_handler_default_config as default_config
use Rattle.handler_c.specs.contracts.block_handler_fresh as fresh_behind
use Rattle.handler_c_exports.specs.contracts.block_handler_fresh as fresh
use Rattle.handler_c.specs.contracts.block_handler_bytes_held as bytes_held_behind
use Rattle.handler_c_exports.specs.contracts.block_handler_bytes_held as bytes_held
use Rattle.handler_c.specs.contracts.block_handler_read as read_behind
use Rattle.handler_c_exports.specs.contracts.block_handler_read as read
use Rattle.handler_c.specs.contracts.block_handler_write as write_behind
use Rattle.handler_c_exports.specs.contracts.block_handler_write as write
use Rattle.handler_c.specs.contracts.block_handler_body as body_behind
use Rattle.handler_c_exports.specs.contracts.block_handler_body as body
use Rattle.handler_c.specs.contracts.block_handler_served_head as served_head_behind
use Rattle.handler_c_exports.specs.contracts.block_handler_served_head as served_head
use Rattle.handler_c.specs.contracts.block_handler_served_chunk as served_chunk_behind
use Rattle.handler_c_exports.specs.contracts.block_handler_served_chunk as served_chunk
use Rattle.handler_c.specs.contracts.block_handler_sent as sent_behind
use Rattle.handler_c_exports.specs.contracts.block_handler_sent as sent
use Rattle.handler_c.specs.contracts.block_handler_request as request_behind
use Rattle.handler_c_exports.specs.contracts.block_handler_request as request
use Rattle.handler_c.specs.contracts.block_handler_response as response_behind
use Rattle.handler_c_exports.specs.contracts.block_handler_response as response

module _ {M : Type 1} {𝓤 : Ura M} (𝓛 : Logic 𝓤) (mem : Memory → SProp 𝓤) (run : Routine → Fun 𝓤) where
  abbrev pub DefaultConfigIsBehind : Type 2
  DefaultConfigIsBehind = (κs : Lfts 0) (a : Args default_config.signature κs) → default_config.clauses 𝓛 mem run κs a ≡ default_config_behind.clauses 𝓛 mem run κs a

  abbrev pub FreshIsBehind : Type 2
  FreshIsBehind = (κs : Lfts 0) (a : Args fresh.signature κs) → fresh.clauses 𝓛 mem run κs a ≡ fresh_behind.clauses 𝓛 mem run κs a

  abbrev pub BytesHeldIsBehind : Type 2
  BytesHeldIsBehind = (κs : Lfts 1) (a : Args bytes_held.signature κs) → bytes_held.clauses 𝓛 mem run κs a ≡ bytes_held_behind.clauses 𝓛 mem run κs a

  abbrev pub ReadIsBehind : Type 2
  ReadIsBehind = (κs : Lfts 1) (a : Args read.signature κs) → read.clauses 𝓛 mem run κs a ≡ read_behind.clauses 𝓛 mem run κs a

  abbrev pub WriteIsBehind : Type 2
  WriteIsBehind = (κs : Lfts 0) (a : Args write.signature κs) → write.clauses 𝓛 mem run κs a ≡ write_behind.clauses 𝓛 mem run κs a

  abbrev pub BodyIsBehind : Type 2
  BodyIsBehind = (κs : Lfts 0) (a : Args body.signature κs) → body.clauses 𝓛 mem run κs a ≡ body_behind.clauses 𝓛 mem run κs a

  abbrev pub ServedHeadIsBehind : Type 2
  ServedHeadIsBehind = (κs : Lfts 0) (a : Args served_head.signature κs) → served_head.clauses 𝓛 mem run κs a ≡ served_head_behind.clauses 𝓛 mem run κs a

  abbrev pub ServedChunkIsBehind : Type 2
  ServedChunkIsBehind = (κs : Lfts 0) (a : Args served_chunk.signature κs) → served_chunk.clauses 𝓛 mem run κs a ≡ served_chunk_behind.clauses 𝓛 mem run κs a

  abbrev pub SentIsBehind : Type 2
  SentIsBehind = (κs : Lfts 0) (a : Args sent.signature κs) → sent.clauses 𝓛 mem run κs a ≡ sent_behind.clauses 𝓛 mem run κs a

  abbrev pub RequestIsBehind : Type 2
  RequestIsBehind = (κs : Lfts 3) (a : Args request.signature κs) → request.clauses 𝓛 mem run κs a ≡ request_behind.clauses 𝓛 mem run κs a

  abbrev pub ResponseIsBehind : Type 2
  ResponseIsBehind = (κs : Lfts 3) (a : Args response.signature κs) → response.clauses 𝓛 mem run κs a ≡ response_behind.clauses 𝓛 mem run κs a
