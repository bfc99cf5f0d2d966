-- Laws of rows: how long they are, and how many. Assumes nothing.
use Prim.Native.Nat.{ℕ, zero, suc, ◌+◌, ◌*◌, ◌≤◌, ◌<◌}
use mathlib.Core.Bool.{Bool, true, false, cond, true≢false}
use mathlib.Core.Path.{◌≡◌, refl, ap, ◌∙◌}
use mathlib.Core.List.{List, [], ◌∷◌, ◌++◌}
use native.Mathlib.Omega.{arith}
use lib.ListN.{length, take, drop, get_or, set, replicate, length-append, length-replicate, length-take, length-set}
use Rattle.pieces.specs.Memory.{part}
use Rattle.pieces.proofs.Tests.{by_cases}
use Rattle.big_endian.specs.Numbers.{in_bytes, number_at}
use Rattle.keys.specs.Keys.{Name, key_of, stored}
use Rattle.keys.proofs.Keys.{key-stored}
use Rattle.entries.specs.declared.Entry.{Entry}
use Rattle.entries.specs.Entries.{free}
use Rattle.block_table.specs.Table.{at}
use Rattle.image_format.specs.Rows.{row_bytes, read_entry, rows_from, count, read_rows}
use Rattle.image_format.specs.Image.{read_entries}

-- ---- something holds of each entry

abbrev pub Every : (Entry → Type 0) → List Entry → Type 0
Every P [] = Unit {0}
Every P (e ∷ rest) = P e × Every P rest

module _ (P : Entry → Type 0) where
  pub every_set : (l : List Entry) (i : ℕ) (e : Entry) → Every P l → P e → Every P (set l i e)
  every_set [] i e all new = tt
  every_set (x ∷ l) zero e all new = (new, all.1)
  every_set (x ∷ l) (suc i) e all new = (all.0, every_set l i e all.1 new)

  pub every-same : (n : ℕ) (e : Entry) → P e → Every P (replicate n e)
  every-same zero e h = tt
  every-same (suc n) e h = (h, every-same n e h)

  pub at_every : (l : List Entry) → ((i : ℕ) → i < length l → P (at l i)) → Every P l
  at_every [] h = tt
  at_every (e ∷ l) h = (h 0 (omega arith), at_every l (λ i b. h (suc i) (omega arith)))

  pub every-at : (l : List Entry) → Every P l → (i : ℕ) → i < length l → P (at l i)
  every-at [] all i b = absurd (omega arith)
  every-at (e ∷ l) all zero b = all.0
  every-at (e ∷ l) all (suc i) b = every-at l all.1 i (omega arith)

  pub every-every : (Q : Entry → Type 0) → ((e : Entry) → P e → Q e) → (l : List Entry) → Every P l → Every Q l
  every-every Q h [] all = tt
  every-every Q h (e ∷ l) all = (h e all.0, every-every Q h l all.1)

  -- what holds of each entry that a row tells of, whatever is known of the row, holds of all that are read
  module _ (R : List ℕ → Type 0) (part_of : (n : ℕ) (l : List ℕ) → R l → R (take n l) × R (drop n l)) (new : (row : List ℕ) → R row → P (read_entry row)) where
    pub every-read : (l : List Entry) (n : ℕ) (bytes : List ℕ) → Every P l → R bytes → Every P (read_rows l n bytes)
    every-read l zero bytes all known = all
    every-read l (suc n) bytes all known =
        let parts = part_of 96 bytes known in
        every-read (set l (get_or bytes 0 0) (read_entry (take 96 bytes))) n (drop 96 bytes)
        (every_set l (get_or bytes 0 0) (read_entry (take 96 bytes)) all (new (take 96 bytes) parts.0)) parts.1

-- ---- how long

-- its key is at most 64 bytes long
abbrev pub Short : Entry → Type 0
Short e = length (key_of e.key) ≤ 64

pub length-stored : (k : Name) → length k ≤ 64 → length (stored k).bytes ≡ 64
unfolding stored
length-stored k h = simp (length-append, length-replicate) (omega arith)

pub stored-len : (k : Name) → (stored k).len ≡ length k
unfolding stored
stored-len k = refl

pub length-row : (i : ℕ) (e : Entry) → Short e → length (row_bytes i e) ≡ 96
unfolding row_bytes in_bytes
length-row i e h = omega (arith, length-stored (key_of e.key) h)

-- one entry, in use or not, and the others
module _ (e : Entry) (l : List Entry) where
  pub count-used : e.used ≡ true → count (e ∷ l) ≡ suc (count l)
  count-used u = ap (λ (b : Bool). cond b (suc (count l)) (count l)) u

  pub count-unused : e.used ≡ false → count (e ∷ l) ≡ count l
  count-unused n = ap (λ (b : Bool). cond b (suc (count l)) (count l)) n

  module _ (i : ℕ) where
    pub rows-used : e.used ≡ true → rows_from i (e ∷ l) ≡ row_bytes i e ++ rows_from (suc i) l
    rows-used u = ap (λ (b : Bool). cond b (row_bytes i e ++ rows_from (suc i) l) (rows_from (suc i) l)) u

    pub rows-unused : e.used ≡ false → rows_from i (e ∷ l) ≡ rows_from (suc i) l
    rows-unused n = ap (λ (b : Bool). cond b (row_bytes i e ++ rows_from (suc i) l) (rows_from (suc i) l)) n

pub rows_long : (l : List Entry) (i : ℕ) → Every Short l → length (rows_from i l) ≡ 96 * count l
rows_long [] i short = refl
rows_long (e ∷ l) i short =
    let rest = rows_long l (suc i) short.1 in
    by_cases e.used
    (λ u.
    let row = length-row i e short.0 in
    omega (arith, count-used e l u, ap length (rows-used e l i u), length-append (row_bytes i e) (rows_from (suc i) l)))
    (λ n. omega (arith, count-unused e l n, ap length (rows-unused e l i n)))

pub count_most : (l : List Entry) → count l ≤ length l
count_most [] = omega arith
count_most (e ∷ l) =
    let rest = count_most l in by_cases e.used (λ u. omega (arith, count-used e l u)) (λ n. omega (arith, count-unused e l n))

-- ---- what is read: sixteen entries, whose keys are short

-- a row more is an entry in use more, at most
count_set : (l : List Entry) (i : ℕ) (e : Entry) → count (set l i e) ≤ suc (count l)
count_set [] i e = omega arith
count_set (f ∷ l) zero e =
    let least : count l ≤ count (f ∷ l) = by_cases f.used (λ u. omega (arith, count-used f l u)) (λ n. omega (arith, count-unused f l n)) in
    by_cases e.used (λ u. omega (arith, count-used e l u)) (λ n. omega (arith, count-unused e l n))
count_set (f ∷ l) (suc i) e =
    let rest = count_set l i e in
    by_cases f.used (λ u. omega (arith, count-used f l u, count-used f (set l i e) u)) (λ n. omega (arith, count-unused f l n, count-unused f (set l i e) n))

count-rows : (l : List Entry) (n : ℕ) (bytes : List ℕ) → count (read_rows l n bytes) ≤ count l + n
count-rows l zero bytes = omega arith
count-rows l (suc n) bytes =
    let first = count_set l (get_or bytes 0 0) (read_entry (take 96 bytes)) in
    omega (arith, count-rows (set l (get_or bytes 0 0) (read_entry (take 96 bytes))) n (drop 96 bytes))

pub read_count : (l : List ℕ) → count (read_entries l) ≤ number_at l 4 4
unfolding read_entries
read_count l = omega (arith, count-rows (replicate 16 free) (number_at l 4 4) (drop 32 l))

pub length-rows : (l : List Entry) (n : ℕ) (bytes : List ℕ) → length (read_rows l n bytes) ≡ length l
length-rows l zero bytes = refl
length-rows l (suc n) bytes =
    length-rows (set l (get_or bytes 0 0) (read_entry (take 96 bytes))) n (drop 96 bytes) ∙ length-set l (get_or bytes 0 0) (read_entry (take 96 bytes))

pub read-sixteen : (l : List ℕ) → length (read_entries l) ≡ 16
unfolding read_entries
read-sixteen l = length-rows (replicate 16 free) (number_at l 4 4) (drop 32 l)

pub entry-short : (row : List ℕ) → Short (read_entry row)
unfolding read_entry part
entry-short row = simp (key-stored, length-take) (omega arith)

free-short : Short free
unfolding key_of
free-short = omega arith

pub read_short : (l : List ℕ) → Every Short (read_entries l)
unfolding read_entries
read_short l =
    every-read Short (λ _. Unit {0}) (λ n l known. (tt, tt)) (λ row known. entry-short row) (replicate 16 free) (number_at l 4 4) (drop 32 l)
    (every-same Short 16 free free-short) tt

-- an entry that no row tells of is free
pub read-blank : (l : List ℕ) → Every (λ e. e.used ≡ false → e ≡ free) (read_entries l)
unfolding read_entries read_entry
read-blank l =
    every-read (λ e. e.used ≡ false → e ≡ free) (λ _. Unit {0}) (λ n l known. (tt, tt)) (λ row known n. absurd (true≢false n)) (replicate 16 free) (number_at l 4 4) (drop 32 l)
    (every-same (λ e. e.used ≡ false → e ≡ free) 16 free (λ n. refl)) tt
