use native.Mathlib.Omega.{arith}
use Rattle.pieces.proofs.Puts.{put_then, put_as}
use Rattle.head_text.proofs.Heads.{head-is}
use Rattle.head_text.proofs.put_head.Goals as goal

pub returns : goal.returns
returns c =
    let p = put_then c.put-k.ensures (put_then c.put-k-2.ensures (put_then c.put_decimal-k-2.ensures.put c.put_byte.ensures)) in
    let five = c.type_field-type_text.type_inv in
    let five' = c.code_field-code_text.type_inv in
    let is = head-is _ _ _ _ c.type_field-type_text.ensures c.code_field-code_text.ensures c.from.ensures in
    record {
      put = put_as (put_then c.put_decimal-k.ensures.put p) is;
      upper_bound = omega (
        arith,
        c.put_decimal-k.ensures.upper_bound,
        c.put-k.ensures.to,
        c.put-k-2.ensures.to,
        c.put_decimal-k-2.ensures.upper_bound,
        c.put_byte.ensures.to,
        five,
        five',
      );
    }
