-- Looking a number up in the rows from one on. Assumes nothing.
use mathlib.Core.Path.{◌≡◌, refl, ap}
use mathlib.Core.List.{List, [], ◌∷◌, map}
use Prim.Native.Nat.{ℕ, zero, suc, ◌+◌, ◌≤◌, ◌<◌}
use native.Mathlib.Numerals.{add-one}
use native.Mathlib.Omega.{arith}
use lib.ListN.{length, get_or, drop, drop_of_length-le}
use borrow.Author.Tests.{eq-eqb, ne_eqb}
use Rattle.option_table.specs.declared.Length.TheVariants.{Unknown}
use Rattle.option_table.specs.Options.{Row, table, row_of, numbers, limited, look_up}
use Rattle.option_table.proofs.Rising.{not_ahead}

-- the row at an index
pub record RowAt (rows : List Row) (i : ℕ) (item : ℕ × ℕ × ℕ) : Type 0 where
  pub row : Row
  pub ahead : drop i rows ≡ row ∷ drop (i + 1) rows
  pub item_is : item ≡ row_of row

row_at : (rows : List Row) (i : ℕ) (d : ℕ × ℕ × ℕ) → i < length (map row_of rows) → RowAt rows i (get_or (map row_of rows) i d)
row_at [] i d h = absurd (omega arith)
row_at (r ∷ rows) zero d h = record { row = r; ahead = refl; item_is = refl }
row_at (r ∷ rows) (suc i) d h =
    let at = row_at rows i d (omega arith) in
    record { row = at.row; ahead = rw add-one (rw add-one at at.ahead); item_is = at.item_is }

number_at : (rows : List Row) (i : ℕ) (d : ℕ × ℕ × ℕ) → i < length (map row_of rows) → (get_or (map row_of rows) i d).0 ≡ get_or (numbers rows) i 0
number_at [] i d h = absurd (omega arith)
number_at (r ∷ rows) zero d h = refl
number_at (r ∷ rows) (suc i) d h = number_at rows i d (omega arith)

-- where no row has the number
missing : (rows : List Row) (n len : ℕ) → ((k : ℕ) → k < length rows → get_or (numbers rows) k 0 ≡ n → ⊥) → look_up rows n len ≡ Unknown
unfolding look_up
missing [] n len none = refl
missing (r ∷ rows) n len none = simp (ne_eqb r.number n (none 0 (omega arith))) (missing rows n len (λ k l. none (suc k) (omega arith)))

-- behind the last row
pub none_left : (items : List (ℕ × ℕ × ℕ)) → items ≡ map row_of table → (i n len : ℕ) → length items ≤ i → Unknown ≡ look_up (drop i table) n len
unfolding look_up
none_left items are i n len h = rw (drop_of_length-le table {i = i} (omega (arith, ap length are))) refl

-- an item of the table: what is said of a number by the rows from it on
module _ (items : List (ℕ × ℕ × ℕ)) (are : items ≡ map row_of table) (i : ℕ) (h : i < length items) (d : ℕ × ℕ × ℕ) (n len : ℕ) where
  abbrev item : ℕ × ℕ × ℕ
  item = get_or items i d

  at : RowAt table i item
  at = rw are (row_at table i d (rw are at h))

  pub passed_by : n < item.0 → look_up (drop i table) n len ≡ Unknown
  passed_by below = missing (drop i table) n len (not_ahead n i (omega (arith, number_at table i d (rw are at h), ap (λ (l : List (ℕ × ℕ × ℕ)). (get_or l i d).0) are)))

  pub found : n ≡ item.0 → limited item.1 item.2 len ≡ look_up (drop i table) n len
  unfolding look_up
  found e =
      let is : item.0 ≡ at.row.number = ap (λ (x : ℕ × ℕ × ℕ). x.0) at.item_is in
      rw (at.ahead, eq-eqb at.row.number n (omega arith)) (ap (λ (x : ℕ × ℕ × ℕ). limited x.1 x.2 len) at.item_is)

  pub passed_on : (n ≡ item.0 → ⊥) → look_up (drop (i + 1) table) n len ≡ look_up (drop i table) n len
  unfolding look_up
  passed_on e =
      let is : item.0 ≡ at.row.number = ap (λ (x : ℕ × ℕ × ℕ). x.0) at.item_is in
      rw (at.ahead, ne_eqb at.row.number n (λ p. e (omega arith))) refl
