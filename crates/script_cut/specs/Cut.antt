-- A text cut at each mark, and six fields with a space between each two.
use Rattle.script_cut.specs.declared.Six.{Six}
use Rattle.std.specs.Prelude.{ℕ, ◌+◌, ◌-◌, ◌≤◌, ◌<◌, ◌≡◌, false, cond, List, [], ◌∷◌, eqb, ltb, length, get_or, take, drop, Option, Some, None}

abbrev pub Bytes : Type 0
Bytes = List ℕ

-- ---- fields

-- A byte before the first field.
unfoldable pub push : ℕ → List Bytes → List Bytes
push x [] = (x ∷ []) ∷ []
push x (f ∷ fs) = (x ∷ f) ∷ fs

-- A text cut at each mark.
unfoldable pub cut_at : ℕ → Bytes → List Bytes
cut_at mark [] = [] ∷ []
cut_at mark (x ∷ xs) = cond (eqb x mark) ([] ∷ cut_at mark xs) (push x (cut_at mark xs))

-- The fields of a line: exactly one space stands between two.
abbrev pub fields : Bytes → List Bytes
fields l = cut_at 32 l

abbrev pub at : List Bytes → ℕ → Bytes
at fs i = get_or fs i []

-- ---- the ends of fields

abbrev pub between : Bytes → ℕ → ℕ → Bytes
between l from to = take (to - from) (drop from l)

-- What stands from an index on is cut first at r: at a mark, or at the end.
pub record UpTo (mark : ℕ) (l : Bytes) (from r : ℕ) : Type 0 where
  pub after : from ≤ r
  pub within : r ≤ length l
  pub is : cut_at mark (drop from l) ≡ between l from r ∷ cond (ltb r (length l)) (cut_at mark (drop (r + 1) l)) []

-- The field behind a space is cut first at r; behind the end there is none.
pub record Next (l : Bytes) (space r : ℕ) : Type 0 where
  pub behind : space < length l → UpTo 32 l (space + 1) r
  pub none : length l ≤ space → r ≡ length l

-- How many bytes the fields have together.
abbrev pub lengths : List Bytes → ℕ
lengths [] = 0
lengths (f ∷ fs) = length f + lengths fs

-- The six as a list.
abbrev pub texts : Six → List Bytes
texts six = six.first.now ∷ six.second.now ∷ six.third.now ∷ six.fourth.now ∷ six.fifth.now ∷ six.sixth.now ∷ []

-- Six fields from an index on; or not six.
abbrev pub Parts : Bytes → ℕ → Option (List Bytes) → Type 0
Parts l from (Some six) = six ≡ fields (drop from l)
Parts l from None = eqb (length (fields (drop from l))) 6 ≡ false
