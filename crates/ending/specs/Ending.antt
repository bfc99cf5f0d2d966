-- How a program ends: what it says on standard error, and its exit code.
use Rattle.std.specs.Prelude.{ℕ, ◌+◌, Bool, cond, ◌||◌, List, [], ◌∷◌, ◌++◌, eqb}
use Rattle.script_text.specs.Text.{decimal}
use Rattle.ending.specs.declared.Ending.{Ending}

-- 2 where the input could not be read or the output not written; else 1 where a line was unreadable; else 0.
unfoldable pub exit_code : Ending → ℕ
exit_code e = cond (e.read_failed || e.write_failed) 2 (cond (eqb e.unreadable 0) 0 1)

-- `: cannot read standard input`, and a line end.
abbrev pub not_read : List ℕ
not_read =
    58 ∷ 32 ∷ 99 ∷ 97 ∷ 110 ∷ 110 ∷ 111 ∷ 116 ∷ 32 ∷ 114 ∷ 101 ∷ 97 ∷ 100 ∷ 32 ∷ 115 ∷ 116 ∷ 97 ∷ 110 ∷ 100 ∷ 97 ∷ 114 ∷ 100 ∷ 32 ∷ 105 ∷ 110 ∷ 112 ∷ 117 ∷ 116 ∷ 10 ∷ []

-- `: cannot write standard output`, and a line end.
abbrev pub not_written : List ℕ
not_written =
    58 ∷ 32 ∷ 99 ∷ 97 ∷ 110 ∷ 110 ∷ 111 ∷ 116 ∷ 32 ∷ 119 ∷ 114 ∷ 105 ∷ 116 ∷ 101 ∷ 32 ∷ 115 ∷ 116 ∷ 97 ∷ 110 ∷ 100 ∷ 97 ∷ 114 ∷ 100 ∷ 32 ∷ 111 ∷ 117 ∷ 116 ∷ 112 ∷ 117 ∷ 116 ∷ 10 ∷ []

-- `: unreadable lines: `
abbrev pub unread_lines : List ℕ
unread_lines =
    58 ∷ 32 ∷ 117 ∷ 110 ∷ 114 ∷ 101 ∷ 97 ∷ 100 ∷ 97 ∷ 98 ∷ 108 ∷ 101 ∷ 32 ∷ 108 ∷ 105 ∷ 110 ∷ 101 ∷ 115 ∷ 58 ∷ 32 ∷ []

-- A sentence starts with the program's name; it is said if it is true.
unfoldable pub sentence : Bool → List ℕ → List ℕ → List ℕ
sentence said program what = cond said (program ++ what) []

unfoldable pub unread_text : List ℕ → ℕ → List ℕ
unread_text program n = cond (eqb n 0) [] (program ++ (unread_lines ++ (decimal n ++ (10 ∷ []))))

unfoldable pub ending_text : List ℕ → Ending → List ℕ
ending_text program e =
    sentence e.read_failed program not_read ++ (sentence e.write_failed program not_written ++ unread_text program e.unreadable)

-- What is reported: the exit code as a digit, and a line end.
unfoldable pub report_text : Ending → List ℕ
report_text e = (48 + exit_code e) ∷ 10 ∷ []
