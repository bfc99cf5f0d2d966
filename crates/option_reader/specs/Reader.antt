-- What the walks over the options come to: where they end, and the n-th of a number.
use Rattle.std.specs.Prelude.{ℕ, zero, suc, ◌-◌, ◌≤◌, ◌<◌, ◌≡◌, cond, List, [], ◌∷◌, eqb, length, drop, Option, Some, None, Result, Ok, Err}
use Rattle.pieces.specs.Memory.{within}
use Rattle.message_format.specs.Format.{CoapOption, Options, broken, options, options_of, Next}
use Rattle.one_option.specs.Index.{next_at}
use Rattle.message_format.specs.declared.Malformed.{Malformed}
use Rattle.option_reader.specs.declared.Part.{Part}
use Rattle.option_reader.specs.declared.Run.{Run}
use Rattle.option_reader.specs.declared.Run.TheVariants.{More, End}

abbrev pub between : ℕ → ℕ → Part
between from to = record { from = from; to = to }

-- How many bytes are left where the options end.
abbrev pub ends_of : Options → Result ℕ Malformed
ends_of broken = Err (record {})
ends_of (options list left) = Ok (length left)

-- Where the options of the rest end, by what a run of them comes to.
abbrev pub after_run : List ℕ → Result Run Malformed → Result ℕ Malformed
after_run rest (Ok (More left number)) = ends_of (options_of number (drop (length rest - left) rest))
after_run rest (Ok (End left)) = Ok left
after_run rest (Err e) = Err e

-- A run that does not reach the end takes an option at least, if it may take any.
abbrev pub Falls : List ℕ → ℕ → Result Run Malformed → Type 0
Falls rest calls (Ok (More left number)) = (left ≤ length rest) × (0 < calls → left < length rest)
Falls rest calls (Ok (End left)) = Unit {0}
Falls rest calls (Err _) = Unit {0}

pub record RunOf (before : ℕ) (rest : List ℕ) (calls : ℕ) (r : Result Run Malformed) : Type 0 where
  pub ends : after_run rest r ≡ ends_of (options_of before rest)
  pub falls : Falls rest calls r

-- The n-th option of a number, the first being 0, among those from an index on, after one of the number `before`: at most as many are passed
-- as the first number says.
abbrev pub on_found : ℕ → ℕ → (ℕ → ℕ → ℕ → Option Part) → Next → Option Part
on_found wanted n more (Ok (Some o)) =
    cond (eqb o.number wanted) (cond (eqb n 0) (Some (between o.from o.to)) (more o.to o.number (n - 1))) (more o.to o.number n)
on_found wanted n more (Ok None) = None
on_found wanted n more (Err _) = None

unfoldable pub found_in : ℕ → List ℕ → ℕ → ℕ → ℕ → ℕ → Option Part
found_in zero bytes at before wanted n = None
found_in (suc most) bytes at before wanted n =
    on_found wanted n (λ to number k. found_in most bytes to number wanted k) (next_at bytes at before)

-- An option takes a byte at least.
abbrev pub found_from : List ℕ → ℕ → ℕ → ℕ → ℕ → Option Part
found_from bytes at before wanted n = found_in (suc (length bytes - at)) bytes at before wanted n

-- The same among the options that a message means: the value, if there is one.
unfoldable pub nth_of : ℕ → ℕ → List CoapOption → Option (List ℕ)
nth_of wanted n [] = None
nth_of wanted n (o ∷ list) =
    cond (eqb o.number wanted) (cond (eqb n 0) (Some o.value) (nth_of wanted (n - 1) list)) (nth_of wanted n list)

abbrev pub value_at : List ℕ → Option Part → Option (List ℕ)
value_at bytes (Some part) = Some (within bytes part.from part.to)
value_at bytes None = None
