-- The exported functions ensure what Exports.antt is about, and ask nothing of their caller. Assumes nothing.
use mathlib.Core.Path.{refl}
use seplogic.Ra.Ura.{Ura}
use base.Logic.{SProp}
use prog.Memory.{Memory}
use prog.Routine.{Routine}
use types.Logic.{Logic}
use contract.Monad.{Fun}
use contract.Lifetimes.{Lfts}
use Rattle.demands_c.specs.Compiled.{RequestInC, RequestAsksInC, ResponseInC, ResponseAsksInC, BodyInC, BodyAsksInC}

module _ {M : Type 1} {𝓤 : Ura M} (𝓛 : Logic 𝓤) (mem : Memory → SProp 𝓤) (run : Routine → Fun 𝓤) (κs : Lfts 3) where
  pub request-in-C : RequestInC 𝓛 mem run κs
  request-in-C a g r s = refl

  pub request-asks-in-C : RequestAsksInC 𝓛 mem run κs
  request-asks-in-C a g = refl

  pub response-in-C : ResponseInC 𝓛 mem run κs
  response-in-C a g r s = refl

  pub response-asks-in-C : ResponseAsksInC 𝓛 mem run κs
  response-asks-in-C a g = refl

pub body-in-C : BodyInC
body-in-C κs a r s = refl

pub body-asks-in-C : BodyAsksInC
body-asks-in-C κs a = refl
