use Rattle.std.proofs.Common.{arith, ap, ℕ}
use Rattle.pieces.proofs.Puts.{put_then, put_as, put-bound}
use Rattle.parts_text.specs.Parts.{option_text}
use Rattle.parts_text.proofs.Digits.{option-length}
use Rattle.parts_text.proofs.options.put_option.Goals as goal

pub returns : goal.returns
unfolding option_text
returns c =
    let p = put_as (put_then c.put_decimal-k.ensures.put (put_then c.put_byte-k.ensures c.put_shown.ensures.put))
    (ap (λ (n : ℕ). option_text n c.args.value.now) c.from.ensures) in
    record { put = p; upper_bound = omega (arith, put-bound _ p (option-length _ _ (omega (arith, c.ranges.number)))) }
