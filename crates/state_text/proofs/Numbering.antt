-- FNV-1a: a turn of its loop. Assumes nothing.
use Rattle.std.proofs.Common.{◌≡◌, ℕ, ◌+◌, ◌<◌, ◌≤◌, List, length, get_or, drop, sym, ap, ◌∙◌, drop_of_length-le}
use lib.Bits.{bit_xor}
use Rattle.keys.proofs.Turns.{drop-step}
use Rattle.state_text.specs.Memory.{times_prime, fnv_from, fnv_of}

module _ (bytes : List ℕ) (i h : ℕ) (was : fnv_from h (drop i bytes) ≡ fnv_of bytes) where
  pub fnv-turn : (b r : ℕ) → i < length bytes → b ≡ get_or bytes i 0 → r ≡ times_prime (bit_xor h b) → fnv_from r (drop (i + 1) bytes) ≡ fnv_of bytes
  unfolding fnv_from
  fnv-turn b r l e f =
      let turn : fnv_from h (drop i bytes) ≡ fnv_from (times_prime (bit_xor h (get_or bytes i 0))) (drop (i + 1) bytes) = rw (drop-step bytes i 0 l) in
      ap (λ (x : ℕ). fnv_from x (drop (i + 1) bytes)) (f ∙ ap (λ (x : ℕ). times_prime (bit_xor h x)) e) ∙ sym turn ∙ was

  pub fnv-end : length bytes ≤ i → h ≡ fnv_of bytes
  unfolding fnv_from
  fnv-end l = rw (drop_of_length-le bytes {i = i} l) at was
