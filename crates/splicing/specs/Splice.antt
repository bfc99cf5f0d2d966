-- Document 01, "Splice": L bytes are assembled at the start of a piece of U bytes; a block of size s starts at a; its payload has p bytes.
use Rattle.std.specs.Prelude.{ℕ, ◌+◌, ◌-◌, max, cond, List, ◌++◌, ltb, length, take, drop, replicate, Result, Ok, Err}
use Rattle.refusal.specs.declared.Refusal.{Refusal}
use Rattle.refusal.specs.declared.Refusal.TheVariants.{Jump, NoRoom}
use Rattle.pieces.specs.Memory.{patch, part}

-- "Old bytes before a (zeros where a > L), the payload, old bytes from e on", where e = a + s.
unfoldable pub spliced : List ℕ → ℕ → ℕ → List ℕ → List ℕ
spliced body a s payload = take a body ++ replicate (a - length body) 0 ++ payload ++ drop (a + s) body

-- "Its length is max(L, e) - s + p."
abbrev pub spliced_length : ℕ → ℕ → ℕ → ℕ → ℕ
spliced_length l a s p = max l (a + s) - s + p

-- "If e - L > 16,384: refusal 6. .. Its length .. above U: refusal 7."
unfoldable pub splice_of : ℕ → ℕ → ℕ → ℕ → ℕ → Result ℕ Refusal
splice_of u l a s p =
    cond (ltb 16384 (a + s - l)) (Err Jump)
    (cond (ltb u (spliced_length l a s p)) (Err NoRoom)
    (Ok (spliced_length l a s p)))

-- The piece with the new body at its start: "bytes past the new length keep what they held before the call".
unfoldable pub piece_after : List ℕ → ℕ → ℕ → ℕ → List ℕ → List ℕ
piece_after piece l a s payload = patch piece 0 (spliced (take l piece) a s payload)

-- What an answer leaves of the piece: a refusal leaves all of it.
abbrev pub left_by : Result ℕ Refusal → List ℕ → ℕ → ℕ → ℕ → List ℕ → List ℕ
left_by (Err n) piece l a s payload = piece
left_by (Ok n) piece l a s payload = piece_after piece l a s payload

-- ---- How the code makes a splice. No contract of `extending_splice` cites this.

-- The piece m with room for a payload from a up to t in place of the bytes up to e: the tail of the l bytes assembled stands at t, or zeros stand before a.
abbrev pub room_in : List ℕ → ℕ → ℕ → ℕ → ℕ → List ℕ
room_in m l a e t = cond (ltb e l) (patch m t (part m e (l - e))) (cond (ltb l a) (patch m l (replicate (a - l) 0)) m)
