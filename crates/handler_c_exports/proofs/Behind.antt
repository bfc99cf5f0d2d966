-- What is exported has the clauses of the function behind it: by computation. Assumes nothing.
use mathlib.Core.Path.{refl}
use seplogic.Ra.Ura.{Ura}
use base.Logic.{SProp}
use prog.Memory.{Memory}
use prog.Routine.{Routine}
use types.Logic.{Logic}
use contract.Monad.{Fun}
use Rattle.handler_c_exports.specs.Behind.{DefaultConfigIsBehind, FreshIsBehind, BytesHeldIsBehind, ReadIsBehind, WriteIsBehind, BodyIsBehind, ServedHeadIsBehind, ServedChunkIsBehind, SentIsBehind, RequestIsBehind, ResponseIsBehind}

module _ {M : Type 1} {𝓤 : Ura M} (𝓛 : Logic 𝓤) (mem : Memory → SProp 𝓤) (run : Routine → Fun 𝓤) where
  pub default_config-is_behind : DefaultConfigIsBehind 𝓛 mem run
  default_config-is_behind κs a = refl

  pub fresh-is_behind : FreshIsBehind 𝓛 mem run
  fresh-is_behind κs a = refl

  pub bytes_held-is_behind : BytesHeldIsBehind 𝓛 mem run
  bytes_held-is_behind κs a = refl

  pub read-is_behind : ReadIsBehind 𝓛 mem run
  read-is_behind κs a = refl

  pub write-is_behind : WriteIsBehind 𝓛 mem run
  write-is_behind κs a = refl

  pub body-is_behind : BodyIsBehind 𝓛 mem run
  body-is_behind κs a = refl

  pub served_head-is_behind : ServedHeadIsBehind 𝓛 mem run
  served_head-is_behind κs a = refl

  pub served_chunk-is_behind : ServedChunkIsBehind 𝓛 mem run
  served_chunk-is_behind κs a = refl

  pub sent-is_behind : SentIsBehind 𝓛 mem run
  sent-is_behind κs a = refl

  pub request-is_behind : RequestIsBehind 𝓛 mem run
  request-is_behind κs a = refl

  pub response-is_behind : ResponseIsBehind 𝓛 mem run
  response-is_behind κs a = refl
