-- What is read and written again is the same bytes: a message that is taken has one encoding. Assumes nothing.
use mathlib.Core.Path.{◌≡◌, refl, sym, ap, ◌∙◌}
use mathlib.Core.Bool.{Bool, true, false, cond}
use mathlib.Core.List.{List, [], ◌∷◌, ◌++◌, append_assoc}
use Prim.Native.Nat.{ℕ, zero, suc, ◌+◌, ◌-◌, ◌*◌, ◌/◌, ◌%◌, ◌≤◌, ◌<◌}
use native.Mathlib.Omega.{arith}
use lib.Dec.{eqb}
use lib.ListN.{length, take, drop, length-append, length-drop, take-append-drop}
use lib.Seq.{drop-drop, get_or-drop, length-take-le}
use borrow.Author.Tests.{lt-ltb, le-ltb, le-leb, eqb-true, eqb-false, eq-eqb}
use Rattle.message_format.specs.Format.{CoapOption, Message, Bytes, nibble_of, extension, option_head, option_bytes, options_bytes, payload_bytes, head_bytes, bytes_of}
use Rattle.message_format.specs.Format.{options_ok, empty_ok, encodable}
use Rattle.message_format.specs.Format.{extras, extended, next_in, options, on_next, options_in, meaning_of, means}
use Rattle.message_format.specs.Format.{Next, an_option}
use Rattle.std.specs.Prelude.{Some, None, Ok, Err}
use Rattle.message_format.proofs.Laws.{IsOption, next-tells, end-no-option, no-options, with-tells, options-left}
use Rattle.message_format.proofs.Meanings.{Headed, head-tells, Meant, meaning-tells}

bytes_drop : (n : ℕ) (bytes : List ℕ) → Bytes bytes → Bytes (drop n bytes)
bytes_drop n bytes h i = rw (get_or-drop n bytes i 0) (h (n + i))

-- ---- a delta or a length

record Extended (nibble : ℕ) (rest : List ℕ) : Type 0 where
  pub nibble-is : nibble_of (extended nibble rest) ≡ nibble
  pub extension-is : extension (extended nibble rest) ≡ take (extras nibble) rest
  pub small : extended nibble rest ≤ 65804

extended-back : (nibble : ℕ) (rest : List ℕ) → nibble ≤ 14 → extras nibble ≤ length rest → Bytes rest → Extended nibble rest
unfolding nibble_of extension extras extended
extended-back nibble rest h = go (eqb nibble 13) (eqb nibble 14) refl refl rest
  where
    go : (a b : Bool) → eqb nibble 13 ≡ a → eqb nibble 14 ≡ b → (rest : List ℕ) → cond a 1 (cond b 2 0) ≤ length rest → Bytes rest → Extended nibble rest
    go true b p q [] there bytes = absurd (omega arith)
    go true b p q (x ∷ rest) there bytes =
        let s = bytes 0 in
        let e = eqb-true nibble 13 p in
        record {
          nibble-is = rw (p, le-ltb (x + 13) 13 (omega arith), lt-ltb (x + 13) 269 (omega arith)) (sym e);
          extension-is = rw (p, le-ltb (x + 13) 13 (omega arith), lt-ltb (x + 13) 269 (omega arith)) (ap (λ (n : ℕ). n ∷ []) (omega arith));
          small = rw p (omega arith);
        }
    go false true p q [] there bytes = absurd (omega arith)
    go false true p q (x ∷ []) there bytes = absurd (omega arith)
    go false true p q (x ∷ y ∷ rest) there bytes =
        let s = bytes 0 in
        let t = bytes 1 in
        let e = eqb-true nibble 14 q in
        let n : ℕ = x * 256 + y + 269 in
        let high : (n - 269) / 256 ≡ x = omega arith in
        let low : (n - 269) % 256 ≡ y = omega arith in
        record {
          nibble-is = rw (p, q, le-ltb n 13 (omega arith), le-ltb n 269 (omega arith)) (sym e);
          extension-is = rw (p, q, le-ltb n 13 (omega arith), le-ltb n 269 (omega arith)) (λ i. high i ∷ low i ∷ []);
          small = rw (p, q) (omega arith);
        }
    go false false p q rest there bytes =
        let l : nibble < 13 = omega (arith, eqb-false nibble 13 p, eqb-false nibble 14 q) in
        record { nibble-is = rw (p, q, lt-ltb nibble 13 l); extension-is = rw (p, q, lt-ltb nibble 13 l); small = rw (p, q) (omega arith) }

-- ---- one option

module _ (before b : ℕ) (rest : List ℕ) (number from to : ℕ) (next : next_in before (b ∷ rest) ≡ an_option number from to) (bytes : Bytes (b ∷ rest)) where
  is : IsOption before (b / 16) (b % 16) rest number from to
  is = next-tells before b rest number from to next

  -- the bytes that extend the delta, and what follows them; those that extend the length, and what follows them
  x : ℕ
  x = extras (b / 16)

  second : List ℕ
  second = drop x rest

  y : ℕ
  y = extras (b % 16)

  third : List ℕ
  third = drop y second

  len : ℕ
  len = extended (b % 16) second

  room : x + (y + len) ≤ length rest
  unfolding len second x y
  room = omega (arith, is.room)

  delta-back : Extended (b / 16) rest
  unfolding x
  delta-back = extended-back (b / 16) rest is.delta-small (omega (arith, room)) (bytes_drop 1 (b ∷ rest) bytes)

  len-back : Extended (b % 16) second
  unfolding y second
  len-back = extended-back (b % 16) second is.len-small (omega (arith, room, length-drop x rest)) (bytes_drop x rest (bytes_drop 1 (b ∷ rest) bytes))

  from_is : from ≡ 1 + x + y
  unfolding x y
  from_is = is.from_is

  to_is : to ≡ 1 + x + y + len
  unfolding x y len second
  to_is = is.to_is

  at_value : drop from (b ∷ rest) ≡ third
  unfolding third second
  at_value = ap (λ (n : ℕ). drop n (b ∷ rest)) from_is ∙ sym (drop-drop y (1 + x) (b ∷ rest)) ∙ ap (drop y) (sym (drop-drop x 1 (b ∷ rest)))

  at_rest : drop to (b ∷ rest) ≡ drop len third
  at_rest = ap (λ (n : ℕ). drop n (b ∷ rest)) (to_is ∙ ap (λ (n : ℕ). n + len) (sym from_is)) ∙ sym (drop-drop len from (b ∷ rest)) ∙ ap (drop len) at_value

  value-is : take (to - from) (drop from (b ∷ rest)) ≡ take len third
  value-is = let span : to - from ≡ len = omega (arith, from_is, to_is) in rw (span, at_value)

  value-length : length (take (to - from) (drop from (b ∷ rest))) ≡ len
  unfolding third second
  value-length = ap length value-is ∙ length-take-le len third (omega (arith, room, length-drop y second, length-drop x rest))

  head-is : option_head (number - before) (length (take (to - from) (drop from (b ∷ rest)))) ≡ b ∷ (take x rest ++ take y second)
  unfolding option_head x y len
  head-is =
      let delta : number - before ≡ extended (b / 16) rest = omega (arith, is.number_is) in
      let byte : b / 16 * 16 + b % 16 ≡ b = omega arith in
      (λ i. option_head (delta i) (value-length i))
      ∙ (λ i. (delta-back.nibble-is i * 16 + len-back.nibble-is i) ∷ (delta-back.extension-is i ++ len-back.extension-is i))
      ∙ ap (λ (n : ℕ). n ∷ (take x rest ++ take y second)) byte

  pub option-same : option_bytes before (record { number = number; value = take (to - from) (drop from (b ∷ rest)) }) ++ drop to (b ∷ rest) ≡ b ∷ rest
  unfolding third second
  option-same =
      (λ i. (head-is i ++ value-is i) ++ at_rest i)
      ∙ simp append_assoc (ap (λ (l : List ℕ). b ∷ l)
      (ap (λ (l : List ℕ). take x rest ++ (take y second ++ l)) (take-append-drop len third)
      ∙ ap (λ (l : List ℕ). take x rest ++ l) (take-append-drop y second)
      ∙ take-append-drop x rest))

  pub option-goes : (before ≤ number) × (number ≤ 65535) × (length (take (to - from) (drop from (b ∷ rest))) ≤ 65804)
  unfolding len
  option-goes = (omega (arith, is.number_is), omega (arith, is.number_is, is.small), omega (arith, value-length, len-back.small))

-- ---- all options

pub record Listed (before : ℕ) (bytes : List ℕ) (list : List CoapOption) (left : List ℕ) : Type 0 where
  pub same : options_bytes before list ++ left ≡ bytes
  pub ok : options_ok before list ≡ true

listed_more : (before : ℕ) (bytes : List ℕ) (number from to : ℕ) → next_in before bytes ≡ an_option number from to → Bytes bytes → (list : List CoapOption) (left : List ℕ)
    → Listed number (drop to bytes) list left → Listed before bytes (record { number = number; value = take (to - from) (drop from bytes) } ∷ list) left
unfolding options_bytes options_ok next_in
listed_more before [] number from to e bytes list left more = absurd (end-no-option e)
listed_more before (b ∷ rest) number from to e bytes list left more =
    let o : CoapOption = record { number = number; value = take (to - from) (drop from (b ∷ rest)) } in
    let g = option-goes before b rest number from to e bytes in
    record {
      same = append_assoc (option_bytes before o) (options_bytes number list) left ∙ ap (λ (l : List ℕ). option_bytes before o ++ l) more.same ∙ option-same before b rest number from to e bytes;
      ok = rw (le-leb before number g.0, le-leb number 65535 g.1, le-leb (length o.value) 65804 g.2) more.ok;
    }

options-same : (most before : ℕ) (bytes : List ℕ) (list : List CoapOption) (left : List ℕ) → options_in most before bytes ≡ options list left → Bytes bytes → Listed before bytes list left
unfolding options_in options_bytes options_ok
options-same zero before bytes list left e b = absurd (no-options e)
options-same (suc most) before bytes list left e b = go (next_in before bytes) refl (λ number rest l. options-same most number rest l left) e
  where
    go : (n : Next) → next_in before bytes ≡ n → ((number : ℕ) (rest : List ℕ) (l : List CoapOption) → options_in most number rest ≡ options l left → Bytes rest → Listed number rest l left)
        → on_next bytes (λ number rest. options_in most number rest) n ≡ options list left → Listed before bytes list left
    go (Ok (Some o)) p more e =
        let w = with-tells o.number (take (o.to - o.from) (drop o.from bytes)) (options_in most o.number (drop o.to bytes)) list left e in
        rw w.2 (listed_more before bytes o.number o.from o.to p b w.0 left (more o.number (drop o.to bytes) w.0 w.1 (bytes_drop o.to bytes b)))
    go (Ok None) p more e =
        let none : list ≡ [] = cc in
        let all : bytes ≡ left = cc in
        rw none (record { same = sym all; ok = refl })
    go (Err _) p more e = absurd (no-options e)

-- ---- the message

options-none : (before : ℕ) (list : List CoapOption) → length (options_bytes before list) ≡ 0 → length list ≡ 0
unfolding options_bytes option_head
options-none before [] h = refl
options-none before (o ∷ list) h = absurd (omega arith)

payload-none : (payload : List ℕ) → length (payload_bytes payload) ≡ 0 → length payload ≡ 0
unfolding payload_bytes
payload-none [] h = refl
payload-none (b ∷ payload) h = absurd (omega arith)

pub record Back (bytes : List ℕ) (m : Message) : Type 0 where
  pub same : bytes_of m ≡ bytes
  pub ok : encodable m ≡ true

module _ (a code high low : ℕ) (rest : List ℕ) (m : Message) (b : Bytes (a ∷ code ∷ high ∷ low ∷ rest)) (t : Meant (a ∷ code ∷ high ∷ low ∷ rest) m) where
  head : Headed a code (length (a ∷ code ∷ high ∷ low ∷ rest) - 4)
  head = head-tells a code (length (a ∷ code ∷ high ∷ low ∷ rest) - 4) t.ok

  listed : Listed 0 (drop (a % 16) rest) m.options t.left
  listed = options-same (suc (length (drop (a % 16) rest))) 0 (drop (a % 16) rest) m.options t.left t.listed (bytes_drop (a % 16) rest (bytes_drop 4 (a ∷ code ∷ high ∷ low ∷ rest) b))

  left_is : payload_bytes m.payload ≡ t.left
  left_is = ap payload_bytes t.payload-is ∙ (options-left (suc (length (drop (a % 16) rest))) 0 (drop (a % 16) rest) m.options t.left t.listed).marker

  rest-is : m.token ++ (options_bytes 0 m.options ++ payload_bytes m.payload) ≡ rest
  rest-is = (λ i. t.token-is i ++ (options_bytes 0 m.options ++ left_is i)) ∙ ap (λ (l : List ℕ). take (a % 16) rest ++ l) listed.same ∙ take-append-drop (a % 16) rest

  token-length : length m.token ≡ a % 16
  token-length = ap length t.token-is ∙ length-take-le (a % 16) rest (omega (arith, head.there))

  empty-ok : empty_ok m ≡ true
  unfolding empty_ok
  empty-ok = go (eqb m.code 0) refl
    where
      go : (z : Bool) → eqb m.code 0 ≡ z → cond z (eqb (length m.token + length m.options + length m.payload) 0) true ≡ true
      go true p =
          let nothing : length rest ≡ 0 = omega (arith, head.empty (sym t.code_is ∙ eqb-true m.code 0 p)) in
          let sum : length m.token + (length (options_bytes 0 m.options) + length (payload_bytes m.payload)) ≡ length rest = sym (simp length-append at (ap length (sym rest-is))) in
          eq-eqb (length m.token + length m.options + length m.payload) 0 (omega (arith, options-none 0 m.options (omega arith), payload-none m.payload (omega arith)))
      go false p = refl

  back : Back (a ∷ code ∷ high ∷ low ∷ rest) m
  unfolding bytes_of head_bytes encodable
  back =
      let byte = b 0 in
      let codes : code < 256 = b 1 in
      let highs : high < 256 = b 2 in
      let lows : low < 256 = b 3 in
      let first : 64 + m.message_type * 16 + length m.token ≡ a = omega (arith, t.type-is, token-length, head.version, head.token) in
      let id-high : m.message_id / 256 ≡ high = omega (arith, t.id-is) in
      let id-low : m.message_id % 256 ≡ low = omega (arith, t.id-is) in
      record {
        same = (λ i. first i ∷ t.code_is i ∷ id-high i ∷ id-low i ∷ rest-is i);
        ok =
            rw (
              le-leb m.message_type 3 (omega (arith, t.type-is)),
              le-leb m.code 255 (omega (arith, t.code_is)),
              le-leb m.message_id 65535 (omega (arith, t.id-is)),
              le-leb (length m.token) 8 (omega (arith, token-length, head.token)),
              listed.ok,
            ) empty-ok;
      }

-- WHAT IS READ AND WRITTEN AGAIN IS THE SAME BYTES, and the message is one that has an encoding.
pub write-back : (bytes : List ℕ) (m : Message) → Bytes bytes → meaning_of bytes ≡ means m → Back bytes m
write-back [] m b e = absurd (omega (arith, (meaning-tells [] m e).long))
write-back (a ∷ []) m b e = absurd (omega (arith, (meaning-tells (a ∷ []) m e).long))
write-back (a ∷ code ∷ []) m b e = absurd (omega (arith, (meaning-tells (a ∷ code ∷ []) m e).long))
write-back (a ∷ code ∷ high ∷ []) m b e = absurd (omega (arith, (meaning-tells (a ∷ code ∷ high ∷ []) m e).long))
write-back (a ∷ code ∷ high ∷ low ∷ rest) m b e = back a code high low rest m b (meaning-tells (a ∷ code ∷ high ∷ low ∷ rest) m e)

-- One encoding: bytes that mean the same message are the same.
pub one-encoding : (x y : List ℕ) (m : Message) → Bytes x → Bytes y → meaning_of x ≡ means m → meaning_of y ≡ means m → x ≡ y
one-encoding x y m b c e f = sym (write-back x m b e).same ∙ (write-back y m c f).same

-- No encoding: a message that the definition rules out is meant by no bytes.
pub no-encoding : (m : Message) → encodable m ≡ false → (bytes : List ℕ) → Bytes bytes → meaning_of bytes ≡ means m → ⊥
no-encoding m h bytes b e = let z : ◌≡◌ {A = Bool} true false = sym (write-back bytes m b e).ok ∙ h in absurd (let w : ◌≡◌ {A = ℕ} 0 1 = cc in omega arith)
