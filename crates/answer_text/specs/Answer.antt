-- An answer's line: number, answer, Block1, Block2, bytes.
use Rattle.std.specs.Prelude.{ℕ, List, [], ◌∷◌, ◌++◌, Option}
use Rattle.block_value.specs.declared.BlockValue.{BlockValue}
use Rattle.block_state.specs.declared.Kind.{Kind}
use Rattle.block_state.specs.declared.Kind.TheVariants.{Continue, TooLarge, Handed, Pass, Served, Plain, Whole, First, Refused}
use Rattle.block_state.specs.declared.Said.{Said}
use Rattle.block_state.specs.declared.Answer.{Answer}
use Rattle.apart.specs.Answers.{said}
use Rattle.script_text.specs.Text.{decimal, shown, maybe_text, none}

-- The answer's name; a refusal's has its number.
abbrev pub name_text : Kind → ℕ → List ℕ
name_text Continue n = 67 ∷ 111 ∷ 110 ∷ 116 ∷ 105 ∷ 110 ∷ 117 ∷ 101 ∷ []
name_text TooLarge n = 84 ∷ 111 ∷ 111 ∷ 76 ∷ 97 ∷ 114 ∷ 103 ∷ 101 ∷ []
name_text Handed n = 72 ∷ 97 ∷ 110 ∷ 100 ∷ 101 ∷ 100 ∷ []
name_text Pass n = 80 ∷ 97 ∷ 115 ∷ 115 ∷ []
name_text Served n = 83 ∷ 101 ∷ 114 ∷ 118 ∷ 101 ∷ 100 ∷ []
name_text Plain n = 80 ∷ 108 ∷ 97 ∷ 105 ∷ 110 ∷ []
name_text Whole n = 87 ∷ 104 ∷ 111 ∷ 108 ∷ 101 ∷ []
name_text First n = 70 ∷ 105 ∷ 114 ∷ 115 ∷ 116 ∷ []
name_text Refused n = (114 ∷ 101 ∷ 102 ∷ 117 ∷ 115 ∷ 101 ∷ 100 ∷ 45 ∷ []) ++ decimal n

-- The body or the chunk, where an answer of this kind has one.
abbrev pub bytes_text : Kind → List ℕ → List ℕ
bytes_text Refused bytes = none
bytes_text Continue bytes = none
bytes_text TooLarge bytes = none
bytes_text Plain bytes = none
bytes_text Handed bytes = shown bytes
bytes_text Pass bytes = shown bytes
bytes_text Served bytes = shown bytes
bytes_text Whole bytes = shown bytes
bytes_text First bytes = shown bytes

unfoldable pub blocks_text : Option BlockValue → Option BlockValue → List ℕ
blocks_text block1 block2 = 32 ∷ maybe_text block1 ++ (32 ∷ maybe_text block2 ++ (32 ∷ []))

unfoldable pub line_text : ℕ → Said → List ℕ → List ℕ
line_text n s bytes =
    decimal n ++ (32 ∷ name_text s.kind s.number ++ (blocks_text s.block1 s.block2 ++ (bytes_text s.kind bytes ++ (10 ∷ []))))

abbrev pub answer_text : ℕ → Answer → List ℕ → List ℕ
answer_text n a bytes = line_text n (said a) bytes

-- A line that cannot be read: `N unreadable - - -`.
unfoldable pub unreadable_text : ℕ → List ℕ
unreadable_text n = decimal n ++ (32 ∷ 117 ∷ 110 ∷ 114 ∷ 101 ∷ 97 ∷ 100 ∷ 97 ∷ 98 ∷ 108 ∷ 101 ∷ 32 ∷ 45 ∷ 32 ∷ 45 ∷ 32 ∷ 45 ∷ 10 ∷ [])
