-- Document 01's cases 1 to 12, those of strict mode, those at the edges of its numbers and document 02's hold of the definitions, by computation. Assumes nothing.
use Prim.Native.Nat.{ℕ, zero, suc}
use mathlib.Core.Bool.{Bool, true, false}
use mathlib.Core.Path.{refl}
use mathlib.Core.List.{List, [], ◌∷◌}
use lib.ListN.{take, drop}
use Rattle.cases.specs.Cases.{Row, AllSay, cases}
use Rattle.cases.specs.StrictCases.{strict_cases}
use Rattle.cases.specs.EdgeCases.{edge_cases}
use Rattle.cases.specs.ModeCases.{mode_cases}
use Rattle.cases.specs.HeldCases.{held_cases}
use Rattle.cases.proofs.Computes.{steps, calls}

-- the first n rows hold, and the others
halves : (n : ℕ) (l : List Row) → AllSay (take n l) → AllSay (drop n l) → AllSay l
halves zero l front behind = behind
halves (suc n) [] front behind = tt
halves (suc n) (r ∷ l) front behind = (front.0, halves n l front.1 behind)

pub cases-hold : (strict : Bool) → AllSay (cases strict)
unfolding steps
cases-hold true =
    halves 16 (cases true)
    (refl, (refl, (refl, (refl, (refl, (refl, (refl, (refl, (refl, (refl, (refl, (refl, (refl, (refl, (refl, (refl, tt))))))))))))))))
    (refl, (refl, (refl, (refl, (refl, (refl, (refl, (refl, (refl, (refl, (refl, (refl, (refl, (refl, (refl, tt)))))))))))))))
cases-hold false =
    halves 16 (cases false)
    (refl, (refl, (refl, (refl, (refl, (refl, (refl, (refl, (refl, (refl, (refl, (refl, (refl, (refl, (refl, (refl, tt))))))))))))))))
    (refl, (refl, (refl, (refl, (refl, (refl, (refl, (refl, (refl, (refl, (refl, (refl, (refl, (refl, (refl, tt)))))))))))))))

pub strict-cases : AllSay strict_cases
unfolding steps
strict-cases =
    halves 12 strict_cases
    (refl, (refl, (refl, (refl, (refl, (refl, (refl, (refl, (refl, (refl, (refl, (refl, tt))))))))))))
    (refl, (refl, (refl, (refl, (refl, (refl, (refl, (refl, (refl, (refl, (refl, (refl, tt))))))))))))

pub edge-cases : AllSay edge_cases
unfolding calls
edge-cases =
    halves 11 edge_cases
    (refl, (refl, (refl, (refl, (refl, (refl, (refl, (refl, (refl, (refl, (refl, tt)))))))))))
    (refl, (refl, (refl, (refl, (refl, (refl, (refl, (refl, (refl, (refl, (refl, tt)))))))))))

pub mode-cases : AllSay mode_cases
unfolding steps
mode-cases =
    halves 14 mode_cases
    (refl, (refl, (refl, (refl, (refl, (refl, (refl, (refl, (refl, (refl, (refl, (refl, (refl, (refl, tt))))))))))))))
    (refl, (refl, (refl, (refl, (refl, (refl, (refl, (refl, (refl, (refl, (refl, (refl, (refl, (refl, tt))))))))))))))

pub held-cases : AllSay held_cases
unfolding calls
held-cases = (refl, (refl, (refl, (refl, tt))))
