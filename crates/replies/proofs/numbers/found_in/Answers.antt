use Prim.Native.Nat.{ℕ}
use mathlib.Core.Path.{◌≡◌}
use mathlib.Core.Bool.{Bool, cond, ◌&&◌}
use lib.Dec.{leb}
use Rattle.block_state.specs.declared.Part.{Part}
use Rattle.answer_sources.specs.declared.Source.{Source}
use Rattle.answer_sources.specs.declared.Source.TheVariants.{Within}
use Rattle.replies.specs.declared.Found.{Found}
use Rattle.replies.specs.Found.{found, found_in}
use Rattle.replies.proofs.numbers.found_in.Goals as goal

-- what was found is what is found in the source, once it is known which
of : {x : Found} (s t : Source) (message memory : ℕ) → s ≡ t → x ≡ found_in t message memory → x ≡ found_in s message memory
of s t message memory e h = rw e h

-- a part, by whether it is there
part : {x : Found} (s : Source) (p : Part) (message memory : ℕ) (there : Bool) → s ≡ Within p → (leb p.from p.to && leb p.to memory) ≡ there
    → x ≡ cond there (found 2 p.from p.to) (found 0 0 0) → x ≡ found_in s message memory
unfolding found_in
part s p message memory there e t h = rw (e, t) h

pub returns-then-part-memory : goal.returns-then-part-memory
returns-then-part-memory c = part _ _ _ _ _ c.in-Within.is c.if-part-memory.true c.found-then-part-memory.ensures

pub returns-in-Nothing : goal.returns-in-Nothing
unfolding found_in
returns-in-Nothing c = of _ _ _ _ c.in-Nothing.is c.found.ensures

pub returns-in-Message : goal.returns-in-Message
unfolding found_in
returns-in-Message c = of _ _ _ _ c.in-Message.is c.found-in-Message.ensures

pub returns-else-part-memory : goal.returns-else-part-memory
returns-else-part-memory c = part _ _ _ _ _ c.in-Within.is c.if-part-memory.false c.found-in-Within.ensures
