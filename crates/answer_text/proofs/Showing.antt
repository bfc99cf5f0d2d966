-- What an answer shows, by its number, and that it is no longer than what it is a part of. Assumes nothing.
use mathlib.Core.Bool.{Bool, true, false, cond, ◌&&◌}
use mathlib.Core.List.{List, []}
use Prim.Native.Nat.{ℕ, ◌-◌, ◌≤◌}
use native.Mathlib.Omega.{arith}
use lib.Dec.{leb}
use lib.ListN.{length, length-take, length-drop}
use Rattle.pieces.specs.Memory.{part, within}
use Rattle.block_state.specs.declared.Kind.{Kind}
use Rattle.block_state.specs.declared.Kind.TheVariants.{Continue, TooLarge, Handed, Pass, Served, Plain, Whole, First, Refused}
use Rattle.block_state.specs.declared.Part.{Part}
use Rattle.block_state.specs.declared.Answer.{Answer}
use Rattle.apart.specs.Answers.{said}
use Rattle.answer_sources.specs.Parts.{part_of}
use Rattle.answer_text.specs.Shown.{shown_by, shown_of}

part-short : (m : List ℕ) (p : Part) → length (part_of m p) ≤ length m
unfolding within part
part-short m p = go (leb p.from p.to && leb p.to (length m))
  where
    go : (b : Bool) → length (cond b (part m p.from (p.to - p.from)) []) ≤ length m
    go true = simp (length-take, length-drop) (omega arith)
    go false = omega arith

abbrev Short : ℕ → List ℕ → Type 0
Short k l = length l ≤ k

pub shown-short : (a : Answer) (payload upload away : List ℕ) (k : ℕ) → Short k payload → Short k upload → Short k away → Short k (shown_of a payload upload away)
shown-short a payload upload away k h i j = go (said a).kind
  where
    go : (kind : Kind) → Short k (shown_by kind (said a).part payload upload away)
    go Pass = h
    go Handed = omega (arith, part-short upload (said a).part)
    go Served = omega (arith, part-short away (said a).part)
    go Whole = omega (arith, part-short payload (said a).part)
    go First = omega (arith, part-short payload (said a).part)
    go Continue = omega (arith, part-short payload (said a).part)
    go TooLarge = omega (arith, part-short payload (said a).part)
    go Plain = omega (arith, part-short payload (said a).part)
    go Refused = omega (arith, part-short payload (said a).part)
