-- Writer and reader together: what is written reads back the same, what is read and written again is the same bytes, and a message is refused only
-- if the slices do not describe one, no bytes that the reader takes mean it, or those do not fit. Assumes nothing.
use mathlib.Core.Path.{◌≡◌, refl, sym, ap, ◌∙◌}
use mathlib.Core.Bool.{Bool, true, false, cond}
use mathlib.Core.List.{List, [], ◌∷◌, ◌++◌}
use Prim.Native.Nat.{ℕ, suc, ◌+◌, ◌≤◌, ◌<◌}
use native.Mathlib.Omega.{arith}
use lib.Dec.{leb, eqb}
use lib.ListN.{length, take, drop, length-append}
use lib.Seq.{take_at, drop_at}
use borrow.Author.Tests.{leb-false, le-leb, eq-eqb, eqb-true}
use Rattle.message_format.specs.Format.{CoapOption, Message, Bytes, bytes_of, empty_ok, encodable, meaning_of, means}
use Rattle.message.specs.Reader.{packet_of, without_payload}
use Rattle.message_format.proofs.ReadBack.{read_back, encodable-tells}
use Rattle.message_format.proofs.WriteBack.{write-back}
use Rattle.message.proofs.Shown.{bare-is}
use Rattle.message_measure.specs.Given.{Given, options_from, total, describes, message_of, takes}
use Rattle.message_writer.specs.declared.NotWritten.{NotWritten}
use Rattle.std.specs.Prelude.{Result, Ok, Err}
use Rattle.message_writer.specs.Writer.{Writes, numbers_of, lengths_of, values_of, given_of}
use Rattle.message_writer.proofs.Refuses.{refused-test, written-described, written-bytes}

module _ (out : List ℕ) (g : Given) (out' : List ℕ) where
  -- WHAT IS WRITTEN READS BACK THE SAME.
  pub reads-back : (n : ℕ) → Writes out g out' (Ok n) → meaning_of (take n out') ≡ means (message_of g)
  reads-back n w = ap meaning_of (written-bytes out g out' n w) ∙ read_back (message_of g) (written-described out g out' n w).encoded

  module _ (bytes : List ℕ) (b : Bytes bytes) (is : meaning_of bytes ≡ means (message_of g)) where
    -- WHAT IS READ AND WRITTEN AGAIN IS THE SAME BYTES.
    pub same_bytes : (n : ℕ) → Writes out g out' (Ok n) → take n out' ≡ bytes
    same_bytes n w = written-bytes out g out' n w ∙ (write-back bytes (message_of g) b is).same

    -- REFUSED ONLY WHERE THE OUTPUT IS TOO SMALL for the bytes that mean the message, if the slices describe one and there are such bytes.
    pub refused-small : (k : NotWritten) → Writes out g out' (Err k) → describes g.numbers g.lengths g.values ≡ true → length out < length bytes
    unfolding takes
    refused-small k w d =
        let back = write-back bytes (message_of g) b is in
        let test : takes (length out) g ≡ false = refused-test (takes (length out) g) k (length (bytes_of (message_of g))) w.answer in
        let small : leb (length (bytes_of (message_of g))) (length out) ≡ false = rw (d, back.ok) at test in
        rw (← back.same) (leb-false (length (bytes_of (message_of g))) (length out) small)

-- ---- every message can be given to the writer

described-rest : (list : List CoapOption) → (length (numbers_of list) ≡ length (lengths_of list)) × (total (lengths_of list) ≡ length (values_of list))
unfolding numbers_of lengths_of values_of total
described-rest [] = (refl, refl)
described-rest (o ∷ list) =
    let r = described-rest list in
    (ap suc r.0, ap (λ (n : ℕ). length o.value + n) r.1 ∙ sym (length-append o.value (values_of list)))

pub given-described : (list : List CoapOption) → describes (numbers_of list) (lengths_of list) (values_of list) ≡ true
unfolding describes
given-described list =
    let r = described-rest list in
    rw (eq-eqb (length (numbers_of list)) (length (lengths_of list)) r.0) (eq-eqb (total (lengths_of list)) (length (values_of list)) r.1)

options-same : (list : List CoapOption) → options_from (numbers_of list) (lengths_of list) (values_of list) ≡ list
unfolding numbers_of lengths_of values_of options_from
options-same [] = refl
options-same (o ∷ list) =
    let value : take (length o.value) (o.value ++ values_of list) ≡ o.value = take_at o.value (values_of list) (length o.value) refl in
    let rest : drop (length o.value) (o.value ++ values_of list) ≡ values_of list = drop_at o.value (values_of list) (length o.value) refl in
    (λ i. record { number = o.number; value = value i } ∷ options_from (numbers_of list) (lengths_of list) (rest i))
    ∙ ap (λ (l : List CoapOption). o ∷ l) (options-same list)

pub given-same : (m : Message) → message_of (given_of m) ≡ m
given-same m =
    (λ i. record { message_type = m.message_type; code = m.code; message_id = m.message_id; token = m.token; options = options-same m.options i; payload = m.payload })

-- a message that has an encoding is written where it fits
module _ (m : Message) (ok : encodable m ≡ true) (out : List ℕ) (fits : length (bytes_of m) ≤ length out) (out' : List ℕ) (r : Result ℕ NotWritten) (w : Writes out (given_of m) out' r) where
  pub written_of : r ≡ Ok (length (bytes_of m))
  unfolding takes
  written_of =
      let d = given-described m.options in
      let e : encodable (message_of (given_of m)) ≡ true = ap encodable (given-same m) ∙ ok in
      let n : length (bytes_of (message_of (given_of m))) ≡ length (bytes_of m) = ap (λ (x : Message). length (bytes_of x)) (given-same m) in
      w.answer ∙ rw (d, e, n, le-leb (length (bytes_of m)) (length out) fits)

-- WHAT IS READ CAN BE WRITTEN, into any output that has room for it, and is then the same bytes.
pub read-written : (bytes : List ℕ) (m : Message) → Bytes bytes → meaning_of bytes ≡ means m
    → (out out' : List ℕ) (r : Result ℕ NotWritten) → length bytes ≤ length out → Writes out (given_of m) out' r
    → (r ≡ Ok (length bytes)) × (take (length bytes) out' ≡ bytes)
read-written bytes m b is out out' r fits w =
    let back = write-back bytes m b is in
    let n : length (bytes_of m) ≡ length bytes = ap length back.same in
    let e : r ≡ Ok (length bytes) = written_of m back.ok out (omega arith) out' r w ∙ ap Ok n in
    (e, same_bytes out (given_of m) out' bytes b (is ∙ ap means (sym (given-same m))) (length bytes) (rw e at w))

-- ---- bare

without-ok : (m : Message) → encodable m ≡ true → encodable (without_payload m) ≡ true
unfolding encodable empty_ok
without-ok m ok =
    let e = encodable-tells m ok in
    rw (
      le-leb m.message_type 3 e.type-small,
      le-leb m.code 255 e.code-small,
      le-leb m.message_id 65535 e.id-small,
      le-leb (length m.token) 8 e.token-short,
      e.options-ok,
    ) (go (eqb m.code 0) e.empty)
  where
    go : (z : Bool) → cond z (eqb (length m.token + length m.options + length m.payload) 0) true ≡ true → cond z (eqb (length m.token + length m.options + 0) 0) true ≡ true
    go true p = eq-eqb (length m.token + length m.options + 0) 0 (omega (arith, eqb-true (length m.token + length m.options + length m.payload) 0 p))
    go false p = refl

-- `BARE` OF A MESSAGE READ IS THE LENGTH THAT THE WRITER NEEDS FOR IT WITHOUT ITS PAYLOAD.
pub bare-written : (bytes : List ℕ) (m : Message) → Bytes bytes → meaning_of bytes ≡ means m → (out out' : List ℕ) (r : Result ℕ NotWritten)
    → (packet_of (length bytes) m).options.to ≤ length out → Writes out (given_of (without_payload m)) out' r → r ≡ Ok (packet_of (length bytes) m).options.to
bare-written bytes m b is out out' r fits w =
    let bare = bare-is bytes m is b in
    written_of (without_payload m) (without-ok m (write-back bytes m b is).ok) out (omega arith) out' r w ∙ ap Ok (sym bare)

-- ---- one result

pub one-result : (out : List ℕ) (g : Given) (a b : List ℕ) (r s : Result ℕ NotWritten) → Writes out g a r → Writes out g b s → (a ≡ b) × (r ≡ s)
one-result out g a b r s v w = (v.output ∙ sym w.output, v.answer ∙ sym w.answer)
