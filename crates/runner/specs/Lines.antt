-- The lines of a text, one after another.
use Rattle.std.specs.Prelude.{ℕ, Bool, false, cond, List, [], ◌∷◌, ◌++◌, ltb, eqb, length}
use Rattle.config.specs.declared.Config.{Config}
use Rattle.call.specs.Call.{World}
use Rattle.script_cut.specs.Cut.{cut_at}
use Rattle.script_state.specs.declared.State.{State}
use Rattle.script_state.specs.Start.{header, one_more, unreadable_after, much}
use Rattle.fresh_start.specs.Leaves.{After, world_in}
use Rattle.line_runner.specs.Line.{line_run}

-- Where a script stands: the number is that of the last line, and so many lines were unreadable.
pub record Standing : Type 0 where
  pub config : Config
  pub world : World
  pub number : ℕ
  pub unreadable : ℕ

abbrev pub next_line : Bool → Standing → List ℕ → After
next_line replay s l = line_run replay s.config s.world (one_more s.number) l

abbrev pub after_line : Bool → Standing → List ℕ → Standing
after_line replay s l =
    record {
      config = (next_line replay s l).config;
      world = (next_line replay s l).world;
      number = one_more s.number;
      unreadable = unreadable_after (next_line replay s l).unread s.unreadable;
    }

-- Each line that has ended is run: all but the last of a text that is cut at its line ends.
unfoldable pub after_lines : Bool → Standing → List (List ℕ) → Standing
after_lines replay s [] = s
after_lines replay s (l ∷ []) = s
after_lines replay s (l ∷ m ∷ ls) = after_lines replay (after_line replay s l) (m ∷ ls)

-- What waits to be written after a line: its text behind what waited. Where it is much it is written at once, and nothing waits.
unfoldable pub waits_after : List ℕ → List ℕ → List ℕ
waits_after waiting text = cond (ltb much (length (waiting ++ text))) [] (waiting ++ text)

-- What waits after each line that has ended.
unfoldable pub waits_after_lines : Bool → Standing → List ℕ → List (List ℕ) → List ℕ
waits_after_lines replay s waiting [] = waiting
waits_after_lines replay s waiting (l ∷ []) = waiting
waits_after_lines replay s waiting (l ∷ m ∷ ls) =
    waits_after_lines replay (after_line replay s l) (waits_after waiting (next_line replay s l).text) (m ∷ ls)

-- The last one, which has not ended.
unfoldable pub last_of : List (List ℕ) → List ℕ
last_of [] = []
last_of (l ∷ []) = l
last_of (l ∷ m ∷ ls) = last_of (m ∷ ls)

abbrev pub unended : List ℕ → List ℕ
unended text = last_of (cut_at 10 text)

-- At the end of the input it is a line if it is not empty.
unfoldable pub after_last : Bool → Standing → List ℕ → Standing
after_last replay s l = cond (eqb (length l) 0) s (after_line replay s l)

unfoldable pub last_text : Bool → Standing → List ℕ → List ℕ
last_text replay s l = cond (eqb (length l) 0) [] (next_line replay s l).text

-- ---- a whole script

-- What a script of this text leaves, and what waits to be written at its end.
unfoldable pub after_script : Standing → List ℕ → Standing
after_script s text = after_last false (after_lines false s (cut_at 10 text)) (unended text)

unfoldable pub waits_after_script : Standing → List ℕ → List ℕ
waits_after_script s text =
    waits_after_lines false s header (cut_at 10 text) ++ last_text false (after_lines false s (cut_at 10 text)) (unended text)

-- ---- where the code stands, with what is lent to it

abbrev pub standing : State → List ℕ → List ℕ → Standing
standing s up away = record { config = s.config; world = world_in s.config s.table up away; number = s.number; unreadable = s.unreadable }

abbrev pub lines_in : Bool → State → List ℕ → List ℕ → List ℕ → Standing
lines_in replay s up away text = after_lines replay (standing s up away) (cut_at 10 text)

abbrev pub waits_in : Bool → State → List ℕ → List ℕ → List ℕ → List ℕ → List ℕ
waits_in replay s up away waiting text = waits_after_lines replay (standing s up away) waiting (cut_at 10 text)
