-- What the reader answers, by the tests it makes: the head, the options, the parts. Assumes nothing.
use mathlib.Core.Path.{◌≡◌, refl, sym, ap, ◌∙◌}
use mathlib.Core.Bool.{true, false}
use mathlib.Core.List.{List, [], ◌∷◌}
use Prim.Native.Nat.{ℕ, ◌+◌, ◌-◌, ◌*◌, ◌/◌, ◌%◌, ◌≤◌, ◌<◌}
use native.Mathlib.Omega.{arith}
use lib.ListN.{length, take, drop, get_or, length-drop}
use lib.Seq.{drop-drop, length-take-le}
use Rattle.message_format.specs.Format.{CoapOption, Options, broken, options, options_of, payload_bytes, Meaning, head_ok, meaning_with, meaning_of}
use Rattle.message_format.proofs.Laws.{LeftOf, options-left, rest_of}
use Rattle.message_format.proofs.Meanings.{head-tells, meaning-long}
use Rattle.option_reader.specs.Reader.{between, ends_of}
use Rattle.message_format.specs.declared.Malformed.{Malformed}
use Rattle.std.specs.Prelude.{Result, Ok, Err}
use Rattle.message.specs.Reader.{packet_with, reading_of, read_of}

pub read_short : (bytes : List ℕ) → length bytes < 4 → Err (record {}) ≡ read_of bytes
unfolding meaning_of
read_short [] h = refl
read_short (a ∷ []) h = refl
read_short (a ∷ b ∷ []) h = refl
read_short (a ∷ b ∷ x ∷ []) h = refl
read_short (a ∷ b ∷ x ∷ y ∷ rest) h = absurd (omega arith)

-- what stands after the four bytes of the head
pub rest-length : (bytes : List ℕ) → length (take (length bytes - 4) (drop 4 bytes)) ≡ length bytes - 4
rest-length bytes = ap length (rest_of bytes 4) ∙ length-drop 4 bytes

module _ (bytes : List ℕ) (long : 4 ≤ length bytes) (n : ℕ) (is-n : n ≡ length bytes - 4) where
  abbrev first : ℕ
  first = get_or bytes 0 0

  pub read_head : head_ok first (get_or bytes 1 0) n ≡ false → Err (record {}) ≡ read_of bytes
  read_head e = rw (meaning-long bytes long, ← is-n, e)

  module _ (ok : head_ok first (get_or bytes 1 0) n ≡ true) where
    -- what the bytes mean, by the options that are found
    abbrev meant : Options → Meaning
    meant = meaning_with first (get_or bytes 1 0) (get_or bytes 2 0 * 256 + get_or bytes 3 0) (drop 4 bytes)

    abbrev found : Options
    found = options_of 0 (drop (first % 16) (drop 4 bytes))

    pub meaning-headed : meaning_of bytes ≡ meant found
    meaning-headed = meaning-long bytes long ∙ rw (← is-n, ok)

    -- the token is there, so the options begin in the message
    pub token-there : 4 + first % 16 ≤ length bytes
    token-there = let h = head-tells first (get_or bytes 1 0) n ok in omega (arith, h.there)

    -- the options begin after the token
    after-token : options_of 0 (drop (4 + first % 16) bytes) ≡ found
    after-token = ap (options_of 0) (sym (drop-drop (first % 16) 4 bytes))

    module _ (token : ℕ) (is-token : token ≡ first % 16) (ends : Result ℕ Malformed) (is-ends : ends ≡ ends_of (options_of 0 (drop (4 + token) bytes))) where
      is-ends' : ends ≡ ends_of found
      is-ends' = is-ends ∙ ap (λ (k : ℕ). ends_of (options_of 0 (drop (4 + k) bytes))) is-token ∙ ap ends_of after-token

      pub read-bad : ends ≡ Err (record {}) → Err (record {}) ≡ read_of bytes
      read-bad e = go found refl
        where
          go : (o : Options) → found ≡ o → Err (record {}) ≡ read_of bytes
          go broken p = sym (ap (reading_of (length bytes)) (meaning-headed ∙ ap meant p))
          go (options list left) p = absurd (let z : ◌≡◌ {A = ℕ} 0 1 = cc (sym e ∙ is-ends' ∙ ap ends_of p) in omega arith)

      module _ (left : ℕ) (is-left : ends ≡ Ok left) where
        -- the options that there are, and what is left after them
        taken-options : (list : List CoapOption) × (rest : List ℕ) × (found ≡ options list rest) × (left ≡ length rest)
        taken-options = go found refl
          where
            go : (o : Options) → found ≡ o → (list : List CoapOption) × (rest : List ℕ) × (found ≡ options list rest) × (left ≡ length rest)
            go broken p = absurd (let z : ◌≡◌ {A = ℕ} 0 1 = cc (sym is-left ∙ is-ends' ∙ ap ends_of p) in omega arith)
            go (options list rest) p = (list, rest, p, cc (sym is-left ∙ is-ends' ∙ ap ends_of p))

        after : LeftOf (drop (first % 16) (drop 4 bytes)) taken-options.1
        after = options-left _ 0 _ taken-options.0 taken-options.1 taken-options.2

        pub left-within : left ≤ length bytes
        left-within = omega (arith, taken-options.3, after.short, length-drop (first % 16) (drop 4 bytes), length-drop 4 bytes)

        pub read_taken : Ok (packet_with bytes first left) ≡ read_of bytes
        read_taken =
            let h = head-tells first (get_or bytes 1 0) n ok in
            let fits : first % 16 ≤ length (drop 4 bytes) = omega (arith, h.there, length-drop 4 bytes) in
            let token : first % 16 ≡ length (take (first % 16) (drop 4 bytes)) = sym (length-take-le (first % 16) (drop 4 bytes) fits) in
            let with-marker : left ≡ length (payload_bytes (drop 1 taken-options.1)) = taken-options.3 ∙ sym (ap length after.marker) in
            let bare : left - 1 ≡ length (drop 1 taken-options.1) = omega (arith, taken-options.3, length-drop 1 taken-options.1) in
            (λ i.
            Ok (record {
              message_type = first / 16 % 4;
              code = get_or bytes 1 0;
              message_id = get_or bytes 2 0 * 256 + get_or bytes 3 0;
              token = between 4 (4 + token i);
              options = between (4 + token i) (length bytes - with-marker i);
              payload = between (length bytes - bare i) (length bytes);
            }))
            ∙ sym (ap (reading_of (length bytes)) (meaning-headed ∙ ap meant taken-options.2))
