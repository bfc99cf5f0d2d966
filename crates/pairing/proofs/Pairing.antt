-- EVERY PAIRING OF MESSAGE SIZE AND BLOCK SIZE. Assumes nothing.
use Rattle.refusal.specs.Numbers.{refusal_number}
use Rattle.std.specs.Prelude.{Option, Some, None, Result, Ok, Err}
use Prim.Native.Nat.{ℕ, zero, suc, ◌+◌, ◌*◌, ◌/◌, ◌^◌, ◌≤◌, ◌<◌, min}
use mathlib.Core.Bool.{Bool, true, false}
use mathlib.Core.Path.{◌≡◌, refl, sym, ◌∙◌, ap}
use mathlib.Core.Logic.{◌⊎◌, inl, inr, ⊎_elim}
use native.Mathlib.Nat.{mul-div_cancel, eq-or-lt_of_le, lt_of_not-le}
use native.Mathlib.Omega.{arith}
use lib.Dec.{ltb, leb, eqb}
use lib.Pow.{pow-add, pow_mono}
use borrow.Author.Tests.{ltb-true, ltb-false, leb-true, leb-false, eqb-true}
use Rattle.refusal.specs.declared.Refusal.{Refusal}
use Rattle.refusal.specs.declared.Refusal.TheVariants.{TooLargeToEncode, NoBlockValue}
use Rattle.pieces.proofs.Tests.{by_cases, clash-of}
use Rattle.config.specs.declared.Config.{Config}
use Rattle.config.specs.Mode.{num_limit}
use Rattle.block_value.specs.Value.{largest_power, exponent_of, made, size_of, block_size, block_start}
use Rattle.block_value.specs.declared.BlockValue.{BlockValue}
use Rattle.block_value.proofs.Laws.{size_is, size-least, size-most, exponent-size, made-zero, made-large, made-far, made-well}
use Rattle.negotiation.specs.Negotiation.{negotiated, within, reply_of}
use Rattle.negotiation.proofs.Laws.{reply-none, reply-made, no_room_lem, with-room, absent-fits, absent-large, given-at}
use Rattle.pairing.specs.Pairing.{room_of, granted, num_for, more_for, Needed, Unmakeable, Pairing}

-- ---- the largest power of two

power_below : (most size : ℕ) → 1 ≤ size → 2 ^ largest_power most size ≤ size
unfolding largest_power
power_below zero size h = omega arith
power_below (suc most) size h =
    by_cases (leb (2 ^ suc most) size) (λ y. rw y (leb-true (2 ^ suc most) size y)) (λ n. rw n (power_below most size h))

power-above : (most size : ℕ) → size < 2 ^ suc most → size < 2 ^ suc (largest_power most size)
unfolding largest_power
power-above zero size h = h
power-above (suc most) size h =
    by_cases (leb (2 ^ suc most) size) (λ y. rw y h) (λ n. rw n (power-above most size (leb-false (2 ^ suc most) size n)))

power-least : (k most size : ℕ) → k ≤ most → 2 ^ k ≤ size → k ≤ largest_power most size
unfolding largest_power
power-least k zero size h a = h
power-least k (suc most) size h a =
    by_cases (leb (2 ^ suc most) size) (λ y. rw y h)
    (λ n.
    let below : size < 2 ^ suc most = leb-false (2 ^ suc most) size n in
    rw n (⊎_elim
    (λ (e : k ≡ suc most). let z : 2 ^ suc most ≤ size = rw e at a in absurd (omega arith))
    (λ (l : k < suc most). power-least k most size (omega arith) a)
    (eq-or-lt_of_le h)))

-- a number below 2 ^ k has its largest power below k
power-under : (k most size : ℕ) → 1 ≤ size → size < 2 ^ k → largest_power most size < k
power-under k most size h b =
    lt_of_not-le (λ (l : k ≤ largest_power most size). let p : 2 ^ k ≤ 2 ^ largest_power most size = pow_mono {i = k} l in omega (arith, power_below most size h))

-- the size of the block that a size g makes
module _ (g : ℕ) (least : 1 ≤ g) where
  large : 4096 ≤ g → 7 < exponent_of g
  large h = omega (arith, power-least 12 63 g (omega arith) h)

  module _ (most : g < 4096) where
    exponent-7 : exponent_of g ≤ 7
    exponent-7 = omega (arith, power-under 12 63 g least most)

    size_small : g < 16 → size_of (exponent_of g) ≡ 16
    size_small h =
        let e : exponent_of g ≡ 0 = omega (arith, power-under 4 63 g least h) in
        rw e (size_is 0 (omega arith))

    size-large : 16 ≤ g → (size_of (exponent_of g) ≤ g) × (g < size_of (exponent_of g) + size_of (exponent_of g))
    size-large h =
        let e : exponent_of g + 4 ≡ largest_power 63 g = omega (arith, power-least 4 63 g (omega arith) h) in
        let s : size_of (exponent_of g) ≡ 2 ^ largest_power 63 g = size_is (exponent_of g) exponent-7 ∙ ap (λ (n : ℕ). 2 ^ n) e in
        let two : 2 ^ (largest_power 63 g + 1) ≡ 2 ^ largest_power 63 g * 2 = pow-add 2 (largest_power 63 g) 1 in
        let next : suc (largest_power 63 g) ≡ largest_power 63 g + 1 = omega arith in
        let above : g < 2 ^ (largest_power 63 g + 1) = rw next at (power-above 63 g (omega arith)) in
        (omega (arith, power_below 63 g least), omega arith)

-- ---- what comes out where a block is needed

module _ (c : Config) (n : ℕ) (more : Bool) (g : ℕ) where
  -- the make, by its cases
  data Came : Result (Option BlockValue) Refusal → Type 0 where
    refused : (g ≡ 0) ⊎ (4096 ≤ g) ⊎ (num_limit c.strict < n) → Came (Err NoBlockValue)
    block : 1 ≤ g → g < 4096 → n ≤ num_limit c.strict → Came (Ok (Some (record { num = n; more = more; size_exponent = exponent_of g })))

  came : Came (reply_of (made c.strict n more g))
  came =
      by_cases (eqb g 0)
      (λ y. let e : g ≡ 0 = eqb-true g 0 y in rw (made-zero c.strict n more g e) (refused (inl e)))
      (λ z.
      let nz : g ≡ 0 → ⊥ = λ e. zero-clash (eqb g 0) z e in
      by_cases (leb 4096 g)
      (λ y. let b : 4096 ≤ g = leb-true 4096 g y in rw (made-large c.strict n more g nz (large g (omega (arith, nz)) b)) (refused (inr (inl b))))
      (λ o.
      let b : g < 4096 = leb-false 4096 g o in
      let e7 = exponent-7 g (omega (arith, nz)) b in
      by_cases (ltb limit n)
      (λ y. let f : limit < n = ltb-true limit n y in rw (made-far c.strict n more g nz e7 f) (refused (inr (inr f))))
      (λ u. let f : n ≤ limit = ltb-false limit n u in rw (made-well c.strict n more g nz (exponent_of g) refl e7 f) (block (omega (arith, nz)) b f))))
    where
      limit : ℕ
      limit = num_limit c.strict

      zero-clash : (t : Bool) → eqb g 0 ≡ false → g ≡ 0 → ⊥
      zero-clash t z e = let w : eqb 0 0 ≡ false = rw e at z in absurd (clash-of true refl w)

module _ (c : Config) (b : Option BlockValue) (bare p : ℕ) where
  abbrev m : ℕ
  m = room_of c bare

  abbrev g : ℕ
  g = granted b m

  -- the negotiation, by its cases
  data Out : Result (Option BlockValue) Refusal → Type 0 where
    four : c.limit < bare + 12 → Out (Err TooLargeToEncode)
    none : bare + 12 ≤ c.limit → (Needed b p m → ⊥) → Out (Ok None)
    answered : bare + 12 ≤ c.limit → Needed b p m → (y : Result (Option BlockValue) Refusal) → Came c (num_for b g) (more_for b p g) g y → Out y

came-given : (c : Config) (b : BlockValue) (p m : ℕ)
    → Came c (block_start b / min (block_size b) m) (ltb (block_start b + min (block_size b) m) p) (min (block_size b) m) (within c (Some b) p m)
came-given c b p m =
    let g : ℕ = min (block_size b) m in
    by_cases (eqb g 0)
    (λ y. let e : g ≡ 0 = eqb-true g 0 y in rw (given-at c (Some b) p m b refl, reply-none c (block_start b) g p e) (refused (inl e)))
    (λ z.
    let nz : g ≡ 0 → ⊥ = λ e. zero-not z e in
    rw (given-at c (Some b) p m b refl, reply-made c (block_start b) g p nz) (came c (block_start b / g) (ltb (block_start b + g) p) g))
  where
    zero-not : {g : ℕ} → eqb g 0 ≡ false → g ≡ 0 → ⊥
    zero-not z e = let w : eqb 0 0 ≡ false = rw e at z in absurd (clash-of true refl w)

out : (c : Config) (b : Option BlockValue) (bare p : ℕ) → Out c b bare p (negotiated c b bare p)
out c b bare p =
    by_cases (ltb c.limit (bare + 12))
    (λ y. let h = ltb-true c.limit (bare + 12) y in rw (no_room_lem c b bare p h) (four h))
    (λ n. let h = ltb-false c.limit (bare + 12) n in rw (with-room c b bare p (room_of c bare) h refl) (rest b h))
  where
    rest : (b : Option BlockValue) → bare + 12 ≤ c.limit → Out c b bare p (within c b p (room_of c bare))
    rest None h =
        by_cases (ltb p (room_of c bare))
        (λ y. let l = ltb-true p (room_of c bare) y in rw (absent-fits c None p (room_of c bare) refl l) (none h (λ need. omega arith)))
        (λ n.
        let l = ltb-false p (room_of c bare) n in
        rw (absent-large c None p (room_of c bare) refl l) (answered h l _ (came c 0 true (room_of c bare))))
    rest (Some b) h = answered h tt _ (came-given c b p (room_of c bare))

-- ---- the laws

five-is-not-four : ◌≡◌ {A = Result (Option BlockValue) Refusal} (Err NoBlockValue) (Err TooLargeToEncode) → ⊥
five-is-not-four e = let z : ◌≡◌ {A = ℕ} 5 4 = cc in omega arith

block-is-not : {A : Type 0} (r : BlockValue) (n : Refusal) → ◌≡◌ {A = Result (Option BlockValue) Refusal} (Ok (Some r)) (Err n) → A
block-is-not r n e = let z : ◌≡◌ {A = ℕ} 0 1 = cc in absurd (omega arith)

none-is-not : {A : Type 0} (n : Refusal) → ◌≡◌ {A = Result (Option BlockValue) Refusal} (Ok None) (Err n) → A
none-is-not n e = let z : ◌≡◌ {A = ℕ} 0 1 = cc in absurd (omega arith)

none-is-no-block : {A : Type 0} (r : BlockValue) → ◌≡◌ {A = Result (Option BlockValue) Refusal} (Ok None) (Ok (Some r)) → A
none-is-no-block r e = let z : ◌≡◌ {A = ℕ} 0 1 = cc in absurd (omega arith)

refused-is-no-block : {A : Type 0} (r : BlockValue) (n : Refusal) → ◌≡◌ {A = Result (Option BlockValue) Refusal} (Err n) (Ok (Some r)) → A
refused-is-no-block r n e = let z : ◌≡◌ {A = ℕ} 0 1 = cc in absurd (omega arith)

module _ (c : Config) (b : Option BlockValue) (bare p : ℕ) where
  abbrev room : ℕ
  room = room_of c bare

  abbrev gr : ℕ
  gr = granted b room

  four-only : (y : Result (Option BlockValue) Refusal) → Out c b bare p y → y ≡ Err TooLargeToEncode → c.limit < bare + 12
  four-only y (four h) e = h
  four-only y (none h n) e = none-is-not TooLargeToEncode e
  four-only y (answered h n _ (refused u)) e = absurd (five-is-not-four e)
  four-only y (answered h n _ (block l m o)) e = block-is-not _ TooLargeToEncode e

  five-when : bare + 12 ≤ c.limit → Needed b p room → Unmakeable c b room → (y : Result (Option BlockValue) Refusal) → Out c b bare p y → y ≡ Err NoBlockValue
  five-when h need u y (four l) = absurd (omega arith)
  five-when h need u y (none l n) = absurd (n need)
  five-when h need u y (answered l n _ (refused v)) = refl
  five-when h need u y (answered l n _ (block a below d)) =
      absurd (⊎_elim (λ (e : gr ≡ 0). omega arith) (⊎_elim (λ (e : 4096 ≤ gr). omega arith) (λ (e : num_limit c.strict < num_for b gr). omega arith)) u)

  five-only : (y : Result (Option BlockValue) Refusal) → Out c b bare p y → y ≡ Err NoBlockValue → Unmakeable c b room
  five-only y (four h) e = absurd (five-is-not-four (sym e))
  five-only y (none h n) e = none-is-not NoBlockValue e
  five-only y (answered h n _ (refused u)) e = u
  five-only y (answered h n _ (block l m o)) e = block-is-not _ NoBlockValue e

  made-when : bare + 12 ≤ c.limit → Needed b p room → (Unmakeable c b room → ⊥) → (y : Result (Option BlockValue) Refusal) → Out c b bare p y → (r : BlockValue) × (y ≡ Ok (Some r))
  made-when h need u y (four l) = absurd (omega arith)
  made-when h need u y (none l n) = absurd (n need)
  made-when h need u y (answered l n _ (refused v)) = absurd (u v)
  made-when h need u y (answered l n _ (block a below d)) = (_, refl)

  -- a block that comes out
  record Comes (r : BlockValue) : Type 0 where
    least : 1 ≤ gr
    most : gr < 4096
    num : r.num ≡ num_for b gr
    more : r.more ≡ more_for b p gr
    exponent : r.size_exponent ≡ exponent_of gr
    room-left : bare + 12 ≤ c.limit

  comes : (r : BlockValue) (y : Result (Option BlockValue) Refusal) → Out c b bare p y → y ≡ Ok (Some r) → Comes r
  comes r y (four l) e = refused-is-no-block r TooLargeToEncode e
  comes r y (none l n) e = none-is-no-block r e
  comes r y (answered l n _ (refused v)) e = refused-is-no-block r NoBlockValue e
  comes r y (answered l n _ (block a below d)) e =
      let num : r.num ≡ num_for b gr = cc in
      let more : r.more ≡ more_for b p gr = cc in
      let exponent : r.size_exponent ≡ exponent_of gr = cc in
      record { least = a; most = below; num = num; more = more; exponent = exponent; room-left = l }

-- a negotiation is refused with 4 or 5
pub refusal-number : (c : Config) (b : Option BlockValue) (bare p : ℕ) (n : Refusal) → negotiated c b bare p ≡ Err n → (refusal_number n ≡ 4) ⊎ (refusal_number n ≡ 5)
refusal-number c b bare p n e = of _ (out c b bare p) e
  where
    of : (y : Result (Option BlockValue) Refusal) → Out c b bare p y → y ≡ Err n → (refusal_number n ≡ 4) ⊎ (refusal_number n ≡ 5)
    of y (four h) e = let z : n ≡ TooLargeToEncode = cc in inl (ap refusal_number z)
    of y (none h k) e = none-is-not n e
    of y (answered h k _ (refused u)) e = let z : n ≡ NoBlockValue = cc in inr (ap refusal_number z)
    of y (answered h k _ (block l m o)) e = block-is-not _ n e

-- a block that comes out was made: its num is within the mode's limit, and its exponent at most 7
pub block_within : (c : Config) (b : Option BlockValue) (bare p : ℕ) (r : BlockValue) → negotiated c b bare p ≡ Ok (Some r) → (r.num ≤ num_limit c.strict) × (r.size_exponent ≤ 7)
block_within c b bare p r e = of _ (out c b bare p) e
  where
    of : (y : Result (Option BlockValue) Refusal) → Out c b bare p y → y ≡ Ok (Some r) → (r.num ≤ num_limit c.strict) × (r.size_exponent ≤ 7)
    of y (four h) e = refused-is-no-block r TooLargeToEncode e
    of y (none h k) e = none-is-no-block r e
    of y (answered h k _ (refused u)) e = refused-is-no-block r NoBlockValue e
    of y (answered h k _ (block l m o)) e =
        let num : num_for b (granted b (room_of c bare)) ≡ r.num = cc in
        let exponent : exponent_of (granted b (room_of c bare)) ≡ r.size_exponent = cc in
        (rw num at o, rw exponent at (exponent-7 (granted b (room_of c bare)) l m))

granted-room : (b : Option BlockValue) (m : ℕ) → (granted b m ≤ m) × (16 ≤ m → 16 ≤ granted b m) × (m < 16 → granted b m ≡ m)
granted-room None m = (omega arith, λ h. h, λ h. refl)
granted-room (Some b) m = (omega arith, λ h. omega (arith, size-least b.size_exponent), λ h. omega (arith, size-least b.size_exponent))

pub pairing : Pairing
pairing =
    record {
      four = λ c b bare p h. no_room_lem c b bare p h;
      four_only = λ c b bare p e. four-only c b bare p _ (out c b bare p) e;
      no_block = λ c bare p h l. with-room c None bare p (room_of c bare) h refl ∙ absent-fits c None p (room_of c bare) refl l;
      five = λ c b bare p h need u. five-when c b bare p h need u _ (out c b bare p);
      five_only = λ c b bare p e. five-only c b bare p _ (out c b bare p) e;
      made = λ c b bare p h need u. made-when c b bare p h need u _ (out c b bare p);
      value = λ c b bare p r e. let k = comes c b bare p r _ (out c b bare p) e in (k.num, k.more);
      size = λ c b bare p r e h.
          let k = comes c b bare p r _ (out c b bare p) e in
          let s = size-large (granted b (room_of c bare)) k.least k.most ((granted-room b (room_of c bare)).1 h) in
          (rw k.exponent s.0, rw k.exponent s.1, size-most r.size_exponent);
      fits = λ c b bare p r e h.
          let k = comes c b bare p r _ (out c b bare p) e in
          let s = size-large (granted b (room_of c bare)) k.least k.most ((granted-room b (room_of c bare)).1 h) in
          let z : block_size r ≤ granted b (room_of c bare) = rw k.exponent s.0 in
          omega (arith, (granted-room b (room_of c bare)).0, k.room-left);
      small = λ c b bare p r e h.
          let k = comes c b bare p r _ (out c b bare p) e in
          let q : granted b (room_of c bare) ≡ room_of c bare = (granted-room b (room_of c bare)).2 h in
          let z : block_size r ≡ 16 = rw k.exponent (size_small (granted b (room_of c bare)) k.least k.most (omega arith)) in
          (z, omega (arith, k.room-left));
      asked = λ c b bare p h hn hx.
          let s : ℕ = block_size b in
          let pos : 0 < s = omega (arith, size-least b.size_exponent) in
          let nz : s ≡ 0 → ⊥ = λ e. omega arith in
          let full : min s (room_of c bare) ≡ s = omega arith in
          with-room c (Some b) bare p (room_of c bare) (omega arith) refl
          ∙ given-at c (Some b) p (room_of c bare) b refl
          ∙ rw full (reply-made c (block_start b) s p nz
          ∙ rw (mul-div_cancel b.num pos)
          (ap reply_of (made-well c.strict b.num _ s nz b.size_exponent (sym (exponent-size b.size_exponent hx)) hx hn)));
    }
