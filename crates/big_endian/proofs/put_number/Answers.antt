use mathlib.Core.Path.{refl}
use native.Mathlib.Omega.{arith}
use Rattle.big_endian.proofs.Numbers.{put_done}
use Rattle.big_endian.proofs.put_number.Goals as goal

pub returns : goal.returns
returns c = (put_done _ _ _ _ _ _ _ c.requires c.loop-i.invariant (omega arith), refl)
