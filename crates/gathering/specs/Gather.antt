-- The bytes that stand at the start of a memory's pieces, gathered one after another, and scattered to the pieces again. How many stand in each piece is given
-- as a list of lengths, from piece i on.
use Rattle.std.specs.Prelude.{ℕ, suc, ◌+◌, ◌*◌, ◌≤◌, List, [], ◌∷◌, ◌++◌, take, drop}
use Rattle.pieces.specs.Memory.{patch, piece_of}

abbrev pub sum : List ℕ → ℕ
sum [] = 0
sum (n ∷ rest) = n + sum rest

-- No length is above u, the size of a piece.
abbrev pub Short : ℕ → List ℕ → Type 0
Short u [] = Unit {0}
Short u (n ∷ rest) = (n ≤ u) × Short u rest

-- The first bytes of each piece of u bytes, one after another.
abbrev pub gathered : ℕ → List ℕ → ℕ → List ℕ → List ℕ
gathered u memory i [] = []
gathered u memory i (n ∷ rest) = take n (piece_of u i memory) ++ gathered u memory (suc i) rest

-- The memory with the next bytes at the start of each piece, and all else as it was.
abbrev pub scattered : ℕ → List ℕ → ℕ → List ℕ → List ℕ → List ℕ
scattered u memory i [] bytes = memory
scattered u memory i (n ∷ rest) bytes = scattered u (patch memory (i * u) (take n bytes)) (suc i) rest (drop n bytes)
