-- The parts that the reader gives show what the message means: its token, its payload, its options. Assumes nothing.
use mathlib.Core.Path.{◌≡◌, refl, sym, ap, ◌∙◌}
use mathlib.Core.List.{List, [], ◌∷◌, ◌++◌, append_assoc}
use Prim.Native.Nat.{ℕ, zero, suc, ◌+◌, ◌-◌, ◌%◌, ◌≤◌}
use native.Mathlib.Omega.{arith}
use lib.ListN.{length, take, drop, get_or, length-append, length-drop, drop_of_length-le}
use lib.Seq.{drop-drop, length-take-le, take_at, drop_at, take_all}
use Rattle.pieces.specs.Memory.{within}
use Rattle.pieces.proofs.Memory.{within-there}
use Rattle.message_format.specs.Format.{CoapOption, Message, Bytes, options_bytes, payload_bytes, head_bytes, bytes_of, next_in, options, on_next, options_in, options_of, means, meaning_of}
use Rattle.message_format.specs.Format.{Next}
use Rattle.std.specs.Prelude.{Some, None, Ok, Err}
use Rattle.message_format.proofs.Laws.{next-bounds, options-left, no-options, with-tells}
use Rattle.message_format.proofs.Meanings.{head-tells, meaning-tells}
use Rattle.message_format.proofs.WriteBack.{write-back}
use Rattle.option_reader.specs.Reader.{found_from, nth_of, value_at}
use Rattle.option_reader.proofs.Shown.{shown-from}
use Rattle.message.specs.Reader.{packet_of, without_payload}

-- ---- what is left after the options stands at the end

end_of : (n l : ℕ) (bytes left : List ℕ) → n ≡ length bytes → l ≡ length left → (k : ℕ) → left ≡ drop k bytes → k + l ≡ n → left ≡ drop (n - l) bytes
end_of n l bytes left is-n is-l k e h = let q : k ≡ n - l = omega arith in e ∙ ap (λ (i : ℕ). drop i bytes) q

pub left-last : (most before : ℕ) (bytes : List ℕ) (list : List CoapOption) (left : List ℕ) → options_in most before bytes ≡ options list left → left ≡ drop (length bytes - length left) bytes
unfolding options_in
left-last zero before bytes list left e = absurd (no-options e)
left-last (suc most) before bytes list left e = go (next_in before bytes) refl (λ number rest l. left-last most number rest l left) e
  where
    go : (n : Next) → next_in before bytes ≡ n → ((number : ℕ) (rest : List ℕ) (l : List CoapOption) → options_in most number rest ≡ options l left → left ≡ drop (length rest - length left) rest)
        → on_next bytes (λ number rest. options_in most number rest) n ≡ options list left → left ≡ drop (length bytes - length left) bytes
    go (Ok (Some o)) p more e =
        let b = next-bounds before bytes o.number o.from o.to p in
        let w = with-tells o.number (take (o.to - o.from) (drop o.from bytes)) (options_in most o.number (drop o.to bytes)) list left e in
        let s = options-left most o.number (drop o.to bytes) w.0 left w.1 in
        let l = length-drop o.to bytes in
        end_of (length bytes) (length left) bytes left refl refl (o.to + (length (drop o.to bytes) - length left))
        (more o.number (drop o.to bytes) w.0 w.1 ∙ drop-drop (length (drop o.to bytes) - length left) o.to bytes)
        (omega (arith, b.there, s.short))
    go (Ok None) p more e = let same : left ≡ bytes = cc in end_of (length bytes) (length left) bytes left refl refl 0 same (omega (arith, ap length same))
    go (Err _) p more e = absurd (no-options e)

-- ---- the parts

pub record Parts (bytes : List ℕ) (m : Message) : Type 0 where
  pub room : 4 + length m.token + length (payload_bytes m.payload) ≤ length bytes
  pub token : take (length m.token) (drop 4 bytes) ≡ m.token
  pub options-are : options_of 0 (drop (4 + length m.token) bytes) ≡ options m.options (payload_bytes m.payload)
  pub payload : drop (length bytes - length m.payload) bytes ≡ m.payload

-- the payload is what is left, without its marker
payload-last : (bytes left : List ℕ) → left ≡ drop (length bytes - length left) bytes → length left ≤ length bytes → drop (length bytes - length (drop 1 left)) bytes ≡ drop 1 left
payload-last bytes [] e h = drop_of_length-le bytes {i = length bytes - 0} (omega arith)
payload-last bytes (x ∷ left) e h =
    let q : length bytes - length left ≡ length bytes - length (x ∷ left) + 1 = omega arith in
    ap (λ (i : ℕ). drop i bytes) q ∙ sym (drop-drop 1 (length bytes - length (x ∷ left)) bytes) ∙ ap (drop 1) (sym e)

-- a message of these bytes, from its token's length and what its options are
listed : (bytes : List ℕ) (t : ℕ) (list : List CoapOption) (left : List ℕ) → 4 + t ≤ length bytes → options_of 0 (drop (4 + t) bytes) ≡ options list left
    → (m : Message) → m.token ≡ take t (drop 4 bytes) → m.options ≡ list → m.payload ≡ drop 1 left → Parts bytes m
listed bytes t list left h are m is-token is-options is-payload =
    let rest : List ℕ = drop (4 + t) bytes in
    let o = options-left (suc (length rest)) 0 rest list left are in
    let d : length rest ≡ length bytes - (4 + t) = length-drop (4 + t) bytes in
    let long : length m.token ≡ t = ap length is-token ∙ length-take-le t (drop 4 bytes) (omega (arith, length-drop 4 bytes)) in
    let marked : payload_bytes m.payload ≡ left = ap payload_bytes is-payload ∙ o.marker in
    let last : left ≡ drop (length bytes - length left) bytes = end_of (length bytes) (length left) bytes left refl refl (4 + t + (length rest - length left))
    (left-last (suc (length rest)) 0 rest list left are ∙ drop-drop (length rest - length left) (4 + t) bytes) (omega (arith, o.short)) in
    record {
      room = omega (arith, ap length marked, o.short);
      token = rw long (sym is-token);
      options-are = rw (long, marked, is-options) are;
      payload = rw is-payload (payload-last bytes left last (omega (arith, o.short)));
    }

-- a message that was read stands in its bytes
pub parts : (bytes : List ℕ) (m : Message) → meaning_of bytes ≡ means m → Parts bytes m
parts bytes m e =
    let t = meaning-tells bytes m e in
    let h = head-tells (get_or bytes 0 0) (get_or bytes 1 0) (length bytes - 4) t.ok in
    let token : ℕ = get_or bytes 0 0 % 16 in
    let there : 4 + token ≤ length bytes = omega (arith, h.there, t.long) in
    let after : options_of 0 (drop (4 + token) bytes) ≡ options m.options t.left = ap (options_of 0) (sym (drop-drop token 4 bytes)) ∙ t.listed in
    listed bytes token m.options t.left there after m t.token-is refl t.payload-is

module _ (bytes : List ℕ) (m : Message) (is : meaning_of bytes ≡ means m) where
  -- The options that are walked from where they begin are those of the message, up to the payload.
  pub options-shown : options_of 0 (drop (4 + length m.token) bytes) ≡ options m.options (payload_bytes m.payload)
  options-shown = (parts bytes m is).options-are

  pub token-shown : within bytes (packet_of (length bytes) m).token.from (packet_of (length bytes) m).token.to ≡ m.token
  token-shown =
      let p = parts bytes m is in
      let span : 4 + length m.token - 4 ≡ length m.token = omega arith in
      sym (within-there bytes 4 (4 + length m.token) (omega arith) (omega (arith, p.room))) ∙ ap (λ (i : ℕ). take i (drop 4 bytes)) span ∙ p.token

  pub payload-shown : within bytes (packet_of (length bytes) m).payload.from (packet_of (length bytes) m).payload.to ≡ m.payload
  payload-shown =
      let n : ℕ = length bytes in
      sym (within-there bytes (n - length m.payload) n (omega arith) (omega arith))
      ∙ take_all (n - (n - length m.payload)) (drop (n - length m.payload) bytes) (omega (arith, length-drop (n - length m.payload) bytes))
      ∙ (parts bytes m is).payload

  module _ (b : Bytes bytes) where
    abbrev head : List ℕ
    head = head_bytes m.message_type m.code m.message_id (length m.token)

    same : bytes ≡ head ++ (m.token ++ (options_bytes 0 m.options ++ payload_bytes m.payload))
    unfolding bytes_of
    same = sym (write-back bytes m b is).same

    sizes : length bytes ≡ 4 + (length m.token + (length (options_bytes 0 m.options) + length (payload_bytes m.payload)))
    unfolding head_bytes
    sizes = omega (arith, simp length-append at (ap length same))

    pub options-bytes : within bytes (packet_of (length bytes) m).options.from (packet_of (length bytes) m).options.to ≡ options_bytes 0 m.options
    unfolding head_bytes
    options-bytes =
        let from : ℕ = 4 + length m.token in
        let to : ℕ = length bytes - length (payload_bytes m.payload) in
        let span : to - from ≡ length (options_bytes 0 m.options) = omega (arith, sizes) in
        let front : List ℕ = head ++ m.token in
        let rest : List ℕ = options_bytes 0 m.options ++ payload_bytes m.payload in
        let long : length front ≡ from = omega (arith, length-append head m.token) in
        let whole : bytes ≡ front ++ rest = same ∙ sym (append_assoc head m.token rest) in
        sym (within-there bytes from to (omega (arith, sizes)) (omega arith))
        ∙ ap (take (to - from)) (ap (drop from) whole ∙ drop_at front rest from long)
        ∙ take_at (options_bytes 0 m.options) (payload_bytes m.payload) (to - from) (sym span)

    -- `bare` is the length that the writer needs for the message without its payload.
    pub bare-is : (packet_of (length bytes) m).options.to ≡ length (bytes_of (without_payload m))
    unfolding bytes_of head_bytes payload_bytes
    bare-is = simp length-append (omega (arith, sizes))

-- The n-th option of a number that is found in a message is the n-th that the message means.
pub found-shown : (bytes : List ℕ) (m : Message) → meaning_of bytes ≡ means m → (wanted n : ℕ)
    → value_at bytes (found_from bytes (packet_of (length bytes) m).options.from 0 wanted n) ≡ nth_of wanted n m.options
found-shown bytes m is wanted n =
    shown-from bytes wanted m.options (payload_bytes m.payload) (4 + length m.token) 0 n (omega (arith, (parts bytes m is).room)) (options-shown bytes m is)
