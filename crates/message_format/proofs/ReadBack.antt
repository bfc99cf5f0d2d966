-- What is written reads back the same: the bytes of a message that has an encoding mean that message. Assumes nothing.
use mathlib.Core.Path.{◌≡◌, refl, sym, ap, ◌∙◌}
use mathlib.Core.Bool.{Bool, true, false, cond, ◌&&◌}
use mathlib.Core.List.{List, [], ◌∷◌, ◌++◌, append_assoc}
use Prim.Native.Nat.{ℕ, ◌+◌, ◌-◌, ◌*◌, ◌/◌, ◌%◌, ◌≤◌, ◌<◌}
use native.Mathlib.Omega.{arith}
use lib.Dec.{leb, ltb, eqb}
use lib.ListN.{length, take, drop, length-append}
use lib.Seq.{take_at, drop_at}
use borrow.Author.Tests.{ltb-true, ltb-false, leb-true, eqb-true, eqb-false, eq-eqb, ne_eqb}
use Rattle.pieces.proofs.Tests.{both}
use Rattle.message_format.specs.Format.{CoapOption, Message, nibble_of, extension, option_head, option_bytes, options_bytes, payload_bytes, head_bytes, bytes_of, options_ok, empty_ok, encodable}
use Rattle.message_format.specs.Format.{extras, extended, value_from, value_to, marked, option_in, next_in, options, with_option, options_of, head_ok, meaning_with, meaning_of, malformed, means}
use Rattle.message_format.specs.Format.{an_option, no_more}
use Rattle.message_format.proofs.Laws.{option_is, next-option, options-more, options-end}
use Rattle.message_format.proofs.Meanings.{head-full, head-empty}

-- ---- a delta or a length

pub record Nibble (n : ℕ) (rest : List ℕ) : Type 0 where
  pub small : nibble_of n ≤ 14
  pub longer : extras (nibble_of n) ≡ length (extension n)
  pub back : extended (nibble_of n) (extension n ++ rest) ≡ n

pub nibble-back : (n : ℕ) (rest : List ℕ) → Nibble n rest
unfolding nibble_of extension extras extended
nibble-back n rest = go (ltb n 13) (ltb n 269) refl refl
  where
    go : (a b : Bool) → ltb n 13 ≡ a → ltb n 269 ≡ b → Nibble n rest
    go true b p q =
        let h : n < 13 = ltb-true n 13 p in
        record {
          small = rw p (omega arith);
          longer = rw (p, ne_eqb n 13 (λ e. omega arith), ne_eqb n 14 (λ e. omega arith));
          back = rw (p, ne_eqb n 13 (λ e. omega arith), ne_eqb n 14 (λ e. omega arith));
        }
    go false true p q = record { small = rw (p, q) (omega arith); longer = rw (p, q); back = rw (p, q) (omega (arith, ltb-false n 13 p)) }
    go false false p q = record { small = rw (p, q) (omega arith); longer = rw (p, q); back = rw (p, q) (omega (arith, ltb-false n 269 q)) }

-- ---- one option, before the bytes that follow it

module _ (before : ℕ) (o : CoapOption) (more : List ℕ) (rises : before ≤ o.number) (small : o.number ≤ 65535) where
  delta : ℕ
  delta = o.number - before

  len : ℕ
  len = length o.value

  -- what follows its first byte
  tail : List ℕ
  tail = extension delta ++ (extension len ++ (o.value ++ more))

  tail-is : option_bytes before o ++ more ≡ (nibble_of delta * 16 + nibble_of len) ∷ tail
  unfolding option_head delta len tail
  tail-is = simp append_assoc

  past-delta : drop (extras (nibble_of delta)) tail ≡ extension len ++ (o.value ++ more)
  unfolding tail
  past-delta = drop_at (extension delta) (extension len ++ (o.value ++ more)) (extras (nibble_of delta)) (sym (nibble-back delta []).longer)

  delta-back : extended (nibble_of delta) tail ≡ delta
  unfolding tail
  delta-back = (nibble-back delta (extension len ++ (o.value ++ more))).back

  len-back : extended (nibble_of len) (drop (extras (nibble_of delta)) tail) ≡ len
  len-back = ap (extended (nibble_of len)) past-delta ∙ (nibble-back len (o.value ++ more)).back

  head-length : value_from (nibble_of delta) (nibble_of len) ≡ length (option_head delta len)
  unfolding option_head
  head-length = omega (arith, (nibble-back delta []).longer, (nibble-back len []).longer, length-append (extension delta) (extension len))

  whole_length : 1 + length tail ≡ length (option_head delta len) + len + length more
  unfolding option_head len tail
  whole_length = simp length-append (omega arith)

  -- the option is next, and its value is where it was put
  next-is : next_in before (option_bytes before o ++ more) ≡ an_option o.number (length (option_head delta len)) (length (option_head delta len) + len)
  unfolding delta
  next-is =
      let b : ℕ = nibble_of delta * 16 + nibble_of len in
      let d : nibble_of delta ≤ 14 = (nibble-back delta []).small in
      let l : nibble_of len ≤ 14 = (nibble-back len []).small in
      let high : b / 16 ≡ nibble_of delta = omega arith in
      let low : b % 16 ≡ nibble_of len = omega arith in
      let to : value_to (nibble_of delta) (nibble_of len) tail ≡ length (option_head delta len) + len = (λ i. head-length i + len-back i) in
      let number : before + extended (nibble_of delta) tail ≡ o.number = omega (arith, delta-back) in
      ap (next_in before) tail-is
      ∙ sym (next-option before b (b ∷ tail) (λ z. omega arith) refl (λ z. omega arith))
      ∙ ap (λ (n : ℕ). option_in before n (b % 16) tail) high
      ∙ ap (λ (n : ℕ). option_in before (nibble_of delta) n tail) low
      ∙ sym (option_is before (nibble_of delta) (nibble_of len) tail d l (omega (arith, to, whole_length)) (omega (arith, number)))
      ∙ (λ i. an_option (number i) (head-length i) (to i))

  -- cut out of the bytes, it and the rest are what they were
  pub option_back : options_of before (option_bytes before o ++ more) ≡ with_option o.number o.value (options_of o.number more)
  unfolding len delta
  option_back =
      let bytes : List ℕ = option_bytes before o ++ more in
      let from : ℕ = length (option_head delta len) in
      let at_value : drop from bytes ≡ o.value ++ more = ap (drop from) (append_assoc (option_head delta len) o.value more) ∙ drop_at (option_head delta len) (o.value ++ more) from refl in
      let span : from + len - from ≡ len = omega arith in
      let value : take (from + len - from) (drop from bytes) ≡ o.value = rw (span, at_value) (take_at o.value more len refl) in
      let rest : drop (from + len) bytes ≡ more = drop_at (option_bytes before o) more (from + len) (length-append (option_head delta len) o.value) in
      options-more before bytes o.number from (from + len) next-is
      ∙ (λ i. with_option o.number (value i) (options_of o.number (rest i)))

-- ---- all options, before a payload

pub record Goes (before : ℕ) (o : CoapOption) (more : List CoapOption) : Type 0 where
  pub rises : before ≤ o.number
  pub small : o.number ≤ 65535
  pub short : length o.value ≤ 65804
  pub rest : options_ok o.number more ≡ true

pub ok-tells : (before : ℕ) (o : CoapOption) (more : List CoapOption) → options_ok before (o ∷ more) ≡ true → Goes before o more
unfolding options_ok
ok-tells before o more e =
    let last = both (leb before o.number && leb o.number 65535 && leb (length o.value) 65804) (options_ok o.number more) e in
    let third = both (leb before o.number && leb o.number 65535) (leb (length o.value) 65804) last.0 in
    let two = both (leb before o.number) (leb o.number 65535) third.0 in
    record { rises = leb-true before o.number two.0; small = leb-true o.number 65535 two.1; short = leb-true (length o.value) 65804 third.1; rest = last.1 }

payload-next : (before : ℕ) (payload : List ℕ) → next_in before (payload_bytes payload) ≡ no_more
unfolding payload_bytes next_in marked
payload-next before [] = refl
payload-next before (b ∷ payload) = refl

pub options-back : (before : ℕ) (list : List CoapOption) (payload : List ℕ) → options_ok before list ≡ true
    → options_of before (options_bytes before list ++ payload_bytes payload) ≡ options list (payload_bytes payload)
unfolding options_bytes
options-back before [] payload ok = options-end before (payload_bytes payload) (payload-next before payload)
options-back before (o ∷ list) payload ok =
    let g = ok-tells before o list ok in
    ap (options_of before) (append_assoc (option_bytes before o) (options_bytes o.number list) (payload_bytes payload))
    ∙ option_back before o (options_bytes o.number list ++ payload_bytes payload) g.rises g.small
    ∙ ap (with_option o.number o.value) (options-back o.number list payload g.rest)

-- ---- the message

pub record Encodable (m : Message) : Type 0 where
  pub type-small : m.message_type ≤ 3
  pub code-small : m.code ≤ 255
  pub id-small : m.message_id ≤ 65535
  pub token-short : length m.token ≤ 8
  pub options-ok : options_ok 0 m.options ≡ true
  pub empty : empty_ok m ≡ true

pub encodable-tells : (m : Message) → encodable m ≡ true → Encodable m
unfolding encodable
encodable-tells m e =
    let six = both (leb m.message_type 3 && leb m.code 255 && leb m.message_id 65535 && leb (length m.token) 8 && options_ok 0 m.options) (empty_ok m) e in
    let five = both (leb m.message_type 3 && leb m.code 255 && leb m.message_id 65535 && leb (length m.token) 8) (options_ok 0 m.options) six.0 in
    let four = both (leb m.message_type 3 && leb m.code 255 && leb m.message_id 65535) (leb (length m.token) 8) five.0 in
    let three = both (leb m.message_type 3 && leb m.code 255) (leb m.message_id 65535) four.0 in
    let two = both (leb m.message_type 3) (leb m.code 255) three.0 in
    record {
      type-small = leb-true m.message_type 3 two.0;
      code-small = leb-true m.code 255 two.1;
      id-small = leb-true m.message_id 65535 three.1;
      token-short = leb-true (length m.token) 8 four.1;
      options-ok = five.1;
      empty = six.1;
    }

-- an empty message has nothing after its head
no-options : (list : List CoapOption) → length list ≡ 0 → options_bytes 0 list ≡ []
unfolding options_bytes
no-options [] h = refl
no-options (o ∷ list) h = absurd (omega arith)

no_payload : (payload : List ℕ) → length payload ≡ 0 → payload_bytes payload ≡ []
unfolding payload_bytes
no_payload [] h = refl
no_payload (b ∷ payload) h = absurd (omega arith)

payload-back : (payload : List ℕ) → drop 1 (payload_bytes payload) ≡ payload
unfolding payload_bytes
payload-back [] = refl
payload-back (b ∷ payload) = refl

module _ (m : Message) (is : encodable m ≡ true) where
  e : Encodable m
  e = encodable-tells m is

  first : ℕ
  first = 64 + m.message_type * 16 + length m.token

  after : List ℕ
  after = m.token ++ (options_bytes 0 m.options ++ payload_bytes m.payload)

  first-token : first % 16 ≡ length m.token
  unfolding first
  first-token = omega (arith, e.token-short)

  after-length : length after ≡ length m.token + (length (options_bytes 0 m.options) + length (payload_bytes m.payload))
  unfolding after
  after-length = simp length-append

  nothing-after : m.code ≡ 0 → length after ≡ 0
  unfolding empty_ok
  nothing-after z =
      let none : length m.token + length m.options + length m.payload ≡ 0 = eqb-true _ 0 (rw (eq-eqb m.code 0 z) at e.empty) in
      after-length ∙ rw (no-options m.options (omega arith), no_payload m.payload (omega arith)) (omega arith)

  head-taken : head_ok first m.code (length after) ≡ true
  unfolding first
  head-taken = go (eqb m.code 0) refl
    where
      version : first / 64 ≡ 1
      version = omega (arith, e.token-short, e.type-small)

      short : first % 16 ≤ 8
      short = omega (arith, first-token, e.token-short)

      there : first % 16 ≤ length after
      there = omega (arith, first-token, after-length)

      go : (b : Bool) → eqb m.code 0 ≡ b → head_ok first m.code (length after) ≡ true
      go true p =
          let z : m.code ≡ 0 = eqb-true m.code 0 p in
          sym (head-empty first m.code (length after) version short there z) ∙ eq-eqb (length after) 0 (nothing-after z)
      go false p = sym (head-full first m.code (length after) version short there (eqb-false m.code 0 p))

  -- WHAT IS WRITTEN READS BACK THE SAME.
  pub read_back : meaning_of (bytes_of m) ≡ means m
  unfolding meaning_of bytes_of head_bytes first after
  read_back =
      let rest : List ℕ = options_bytes 0 m.options ++ payload_bytes m.payload in
      let token : take (first % 16) after ≡ m.token = take_at m.token rest (first % 16) (sym first-token) in
      let list : options_of 0 (drop (first % 16) after) ≡ options m.options (payload_bytes m.payload) =
      ap (options_of 0) (drop_at m.token rest (first % 16) (sym first-token)) ∙ options-back 0 m.options m.payload e.options-ok in
      let type : first / 16 % 4 ≡ m.message_type = omega (arith, e.token-short, e.type-small) in
      let id : m.message_id / 256 * 256 + m.message_id % 256 ≡ m.message_id = omega arith in
      ap (λ (h : Bool). cond h (meaning_with first m.code (m.message_id / 256 * 256 + m.message_id % 256) after (options_of 0 (drop (first % 16) after))) malformed) head-taken
      ∙ ap (meaning_with first m.code (m.message_id / 256 * 256 + m.message_id % 256) after) list
      ∙ (λ i. means (record { message_type = type i; code = m.code; message_id = id i; token = token i; options = m.options; payload = payload-back m.payload i }))
