-- A whole line: what each test of the reader says of it, and what stands in the buffer. Assumes nothing.
use mathlib.Core.Path.{◌≡◌, refl, sym, ap, ◌∙◌}
use mathlib.Core.Bool.{Bool, true, false, cond, and-false}
use mathlib.Core.List.{List}
use Prim.Native.Nat.{ℕ, ◌+◌, ◌-◌, ◌≤◌, ◌<◌}
use native.Mathlib.Omega.{arith}
use lib.Dec.{eqb, leb}
use lib.ListN.{length, get_or, take, drop}
use lib.Seq.{take-take, take-add, take-append-le, drop_at, length-take-le}
use borrow.Author.Tests.{lt-ltb, le-ltb, le-leb, lt-leb, eq-eqb, ne_eqb}
use Rattle.script_fields.specs.Fields.{is_number, value, is_bytes, bytes_of, is_option, is_given, option_bytes, Decodes}
use Rattle.script.specs.Line.{Said, unreadable, is_call, request_of, response_of, six, kind_of, line_of, CallIs, said_by, InBuffer}
use Rattle.script.specs.declared.Call.{Call}
use Rattle.std.specs.Prelude.{Some}
use Rattle.script_cut.specs.Cut.{Bytes, at, fields, between}
use Rattle.script.specs.declared.Line.TheVariants as line

-- ---- parts of the buffer

between-take : (m : Bytes) (from to : ℕ) → from ≤ to → from ≤ length m → between m from to ≡ drop from (take to m)
between-take m from to h k =
    let e : from + (to - from) ≡ to = omega arith in
    sym (drop_at (take from m) (between m from to) from (length-take-le from m k)) ∙ ap (drop from) (sym (take-add from (to - from) m))
    ∙ ap (λ (n : ℕ). drop from (take n m)) e

module _ {text m : Bytes} {at : ℕ} {bytes m' : Bytes} {n : ℕ} (d : Decodes text m at bytes m' n) where
  pub front_kept : (to : ℕ) → to ≤ at → take to m' ≡ take to m
  front_kept to h =
      let l : length (take at m) ≡ at = length-take-le at m d.from in
      sym (take-take to n m' (omega (arith, d.to))) ∙ ap (take to) d.is ∙ take-append-le to (take at m) bytes (omega arith) ∙ take-take to at m h

  pub part-kept : (from to : ℕ) → from ≤ to → to ≤ at → between m' from to ≡ between m from to
  part-kept from to h k =
      between-take m' from to h (omega (arith, d.to, d.within)) ∙ ap (drop from) (front_kept to k) ∙ sym (between-take m from to h (omega (arith, d.from)))

  pub part-new : between m' at n ≡ bytes
  part-new =
      between-take m' at n (omega (arith, d.to)) (omega (arith, d.to, d.within)) ∙ ap (drop at) d.is
      ∙ drop_at (take at m) bytes at (length-take-le at m d.from)

-- ---- what both kinds have

module _ (fs : List Bytes) where
  pub no-time : is_number (at fs 0) ≡ false → is_call fs ≡ false
  unfolding is_call
  no-time e = rw e

  pub no_bare : is_number (at fs 2) ≡ false → is_call fs ≡ false
  unfolding is_call
  no_bare e = simp (e, and-false)

  pub no_key_lem : is_bytes (at fs 1) ≡ false → is_call fs ≡ false
  unfolding is_call
  no_key_lem e = simp (e, and-false)

  pub no_payload : is_bytes (at fs 5) ≡ false → is_call fs ≡ false
  unfolding is_call
  no_payload e = simp (e, and-false)

  -- the key and the payload are decoded one after the other
  pub call-is : (c : Call) {m m₁ m₂ : Bytes} → (is_number (at fs 0) ≡ true) × (c.time ≡ value (at fs 0)) → (is_number (at fs 2) ≡ true) × (c.bare ≡ value (at fs 2))
      → (is_bytes (at fs 1) ≡ true) × Decodes (at fs 1) m 0 (bytes_of (at fs 1)) m₁ c.key
      → (is_bytes (at fs 5) ≡ true) × Decodes (at fs 5) m₁ c.key (bytes_of (at fs 5)) m₂ c.payload → CallIs c fs m₂
  unfolding is_call
  call-is c t b k p =
      record {
        good = rw (t.0, b.0, k.0, p.0);
        time = t.1;
        bare = b.1;
        key = front_kept p.1 c.key (omega arith) ∙ k.1.is;
        payload = part-new p.1;
        order = omega (arith, p.1.to);
        within = p.1.within;
        half = omega (arith, k.1.half, p.1.half);
      }

  -- it stays where it is while more is decoded
  pub call_kept : {c : Call} {text m : Bytes} {bytes m' : Bytes} {i n : ℕ} → CallIs c fs m → Decodes text m i bytes m' n → c.payload ≤ i → CallIs c fs m'
  call_kept {c} w d h =
      record {
        good = w.good;
        time = w.time;
        bare = w.bare;
        key = front_kept d c.key (omega (arith, w.order)) ∙ w.key;
        payload = part-kept d c.key c.payload w.order h ∙ w.payload;
        order = w.order;
        within = omega (arith, d.to, d.within);
        half = w.half;
      }

  -- ---- the rest of a request

  pub no-request : is_call fs ≡ false → unreadable ≡ request_of fs
  unfolding request_of
  no-request e = rw e

  pub no-block1 : is_option (at fs 3) ≡ false → unreadable ≡ request_of fs
  unfolding request_of
  no-block1 e = simp (e, and-false)

  pub no-block2 : is_option (at fs 4) ≡ false → unreadable ≡ request_of fs
  unfolding request_of
  no-block2 e = simp (e, and-false)

  -- ---- the rest of a response

  pub no-response : is_call fs ≡ false → unreadable ≡ response_of fs
  unfolding response_of
  no-response e = rw e

  pub no_own : is_number (at fs 3) ≡ false → unreadable ≡ response_of fs
  unfolding response_of
  no_own e = simp (e, and-false)

  own-small : (n : ℕ) → n ≡ value (at fs 3) → n ≤ 1 → leb (value (at fs 3)) 1 ≡ true
  own-small n e h = rw (← e) (le-leb n 1 h)

  pub large-own : (n : ℕ) → n ≡ value (at fs 3) → 1 < n → unreadable ≡ response_of fs
  unfolding response_of
  large-own n e h =
      let l : leb (value (at fs 3)) 1 ≡ false = rw (← e) (lt-leb n 1 h) in
      simp (l, and-false)

  pub no-head : is_bytes (at fs 4) ≡ false → unreadable ≡ response_of fs
  unfolding response_of
  no-head e = simp (e, and-false)

  module _ {c : Call} {m : Bytes} (w : CallIs c fs m) where
    a-request : (given1 given2 : Bool) (block1 block2 : ℕ) → is_option (at fs 3) ≡ true → is_option (at fs 4) ≡ true → given1 ≡ is_given (at fs 3)
        → given2 ≡ is_given (at fs 4) → between m c.payload block1 ≡ option_bytes (at fs 3) → between m block1 block2 ≡ option_bytes (at fs 4)
        → said_by (Some (line.Request (record { call = c; given1 = given1; block1 = block1; given2 = given2; block2 = block2 }))) m ≡ request_of fs
    unfolding request_of
    a-request given1 given2 block1 block2 o p g h x y = rw (w.good, o, p, g, h, x, y, w.time, w.bare, w.key, w.payload)

    a-response : (own head : ℕ) → is_number (at fs 3) ≡ true → own ≡ value (at fs 3) → leb (value (at fs 3)) 1 ≡ true → is_bytes (at fs 4) ≡ true
        → between m c.payload head ≡ bytes_of (at fs 4) → said_by (Some (line.Response (record { call = c; own = eqb own 1; head = head }))) m ≡ response_of fs
    unfolding response_of
    a-response own head n v s b x = rw (w.good, n, s, b, v, x, w.time, w.bare, w.key, w.payload)

  module _ {c : Call} {m : Bytes} (w : CallIs c fs m) where
    -- two options behind the payload
    pub request-read : {given1 given2 : Bool} {m₁ m₂ : Bytes} {block1 block2 : ℕ} → given1 ≡ is_given (at fs 3) → given2 ≡ is_given (at fs 4)
        → (is_option (at fs 3) ≡ true) × Decodes (at fs 3) m c.payload (option_bytes (at fs 3)) m₁ block1
        → (is_option (at fs 4) ≡ true) × Decodes (at fs 4) m₁ block1 (option_bytes (at fs 4)) m₂ block2
        → (said_by (Some (line.Request (record { call = c; given1 = given1; block1 = block1; given2 = given2; block2 = block2 }))) m₂ ≡ request_of fs)
        × InBuffer (Some (line.Request (record { call = c; given1 = given1; block1 = block1; given2 = given2; block2 = block2 }))) m₂
    request-read {given1} {given2} {block1 = block1} {block2} g h o p =
        let past : c.payload ≤ block1 = omega (arith, o.1.to) in
        let held = call_kept (call_kept w o.1 (omega arith)) p.1 past in
        let first = part-kept p.1 c.payload block1 past (omega arith) ∙ part-new o.1 in
        (a-request held given1 given2 block1 block2 o.0 p.0 g h first (part-new p.1), (w.order, past, omega (arith, p.1.to), p.1.within))

    -- a head behind it
    pub response-read : {own : ℕ} {m₁ : Bytes} {head : ℕ} → (is_number (at fs 3) ≡ true) × (own ≡ value (at fs 3)) → own ≤ 1
        → (is_bytes (at fs 4) ≡ true) × Decodes (at fs 4) m c.payload (bytes_of (at fs 4)) m₁ head
        → (said_by (Some (line.Response (record { call = c; own = eqb own 1; head = head }))) m₁ ≡ response_of fs)
        × InBuffer (Some (line.Response (record { call = c; own = eqb own 1; head = head }))) m₁
    response-read {own} {head = head} n small b =
        let held = call_kept w b.1 (omega arith) in (
          a-response held own head n.0 n.1 (own-small own n.1 small) b.0 (part-new b.1),
          (w.order, omega (arith, b.1.to), b.1.within),
        )

-- ---- a line

pub short-line : (l : Bytes) → length l < 2 → unreadable ≡ line_of l
unfolding line_of
short-line l h = rw (lt-ltb (length l) 2 h)

module _ (l : Bytes) (long : 2 ≤ length l) where
  pub no-space : (get_or l 1 0 ≡ 32 → ⊥) → unreadable ≡ line_of l
  unfolding line_of
  no-space h = rw (le-ltb (length l) 2 long, ne_eqb (get_or l 1 0) 32 h)

  module _ (space : get_or l 1 0 ≡ 32) where
    a-line : line_of l ≡ kind_of (get_or l 0 0) (drop 2 l)
    unfolding line_of
    a-line = rw (le-ltb (length l) 2 long, eq-eqb (get_or l 1 0) 32 space)

    none : (a b : Bool) (x y : Said) → unreadable ≡ x → unreadable ≡ y → unreadable ≡ cond a x (cond b y unreadable)
    none true b x y e f = e
    none false true x y e f = f
    none false false x y e f = refl

    pub not-six : eqb (length (fields (drop 2 l))) 6 ≡ false → unreadable ≡ line_of l
    unfolding kind_of six
    not-six e = rw a-line (none (eqb (get_or l 0 0) 81) (eqb (get_or l 0 0) 80) (six request_of (fields (drop 2 l))) (six response_of (fields (drop 2 l))) (rw e) (rw e))

    pub other-line : (get_or l 0 0 ≡ 81 → ⊥) → (get_or l 0 0 ≡ 80 → ⊥) → unreadable ≡ line_of l
    unfolding kind_of
    other-line h k = rw (a-line, ne_eqb (get_or l 0 0) 81 h, ne_eqb (get_or l 0 0) 80 k)

    module _ {fs : List Bytes} (f : fs ≡ fields (drop 2 l)) (six-are : eqb (length fs) 6 ≡ true) where
      pub request-line : get_or l 0 0 ≡ 81 → request_of fs ≡ line_of l
      unfolding kind_of six
      request-line h = rw (a-line, h, ← f, six-are)

      pub response-line : get_or l 0 0 ≡ 80 → response_of fs ≡ line_of l
      unfolding kind_of six
      response-line h = rw (a-line, h, ← f, six-are)
