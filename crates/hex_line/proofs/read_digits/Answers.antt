use mathlib.Core.Path.{refl, sym, ◌∙◌}
use native.Mathlib.Omega.{arith}
use Rattle.hex_line.proofs.Verdicts.{no_digit_lem, odd_number_lem, some_bytes, some-filled, not-filled}
use Rattle.hex_line.proofs.read_digits.Goals as goal

pub returns-then-bad-text : goal.returns-then-bad-text
returns-then-bad-text c = record { value = no_digit_lem _ _ _ c.bad_at-bad.ensures c.if-bad-text.true; filled = not-filled _ _ _ refl }

pub returns-in_default : goal.returns-in_default
returns-in_default c =
    let told = sym c.decode_pairs.ensures.value ∙ c.in_default.is in
    record { value = odd_number_lem _ _ (omega (arith, c.bad_at-bad.ensures, c.if-bad-text.false)) told; filled = not-filled _ _ _ refl }

pub returns : goal.returns
returns c =
    let told = sym c.decode_pairs.ensures.value ∙ c.in-Some.is in
    record {
      value = some_bytes _ _ (omega (arith, c.bad_at-bad.ensures, c.if-bad-text.false)) _ told;
      filled = some-filled c.args.text.now _ _ c.requires.start_le_longest.1 (c.decode_pairs.ensures.filled _ c.in-Some.is);
    }
