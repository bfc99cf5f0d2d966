use Rattle.std.proofs.Common.{arith, sym, ap, ◌≡◌, ◌∙◌, List, ℕ, [], ◌∷◌, ◌++◌, length}
use Rattle.pieces.proofs.Puts.{put_then, put_as}
use Rattle.script_text.specs.Text.{shown}
use Rattle.message_format.specs.Format.{payload_bytes}
use Rattle.parts_text.specs.Parts.{parts_text}
use Rattle.parts_text.proofs.Places.{read-tells, parts_are}
use Rattle.parts_text.proofs.put_parts.Goals as goal

pub put_closed-k-requires : goal.put_closed-k-requires
put_closed-k-requires c =
    let x = read-tells c.args.message.now c.args.packet c.requires.message_value in
    let r = x.1 in
    let token = c.part_of.ensures ∙ r.token-is in
    omega (arith, ap length token)

pub put_options-k-requires : goal.put_options-k-requires
put_options-k-requires c =
    let x = read-tells c.args.message.now c.args.packet c.requires.message_value in
    let r = x.1 in
    let token = c.part_of.ensures ∙ r.token-is in
    record { first_in_bounds = omega arith; first_in_bounds_2 = omega (arith, ap length token) }

pub put_byte-k-requires : goal.put_byte-k-requires
put_byte-k-requires c =
    let x = read-tells c.args.message.now c.args.packet c.requires.message_value in
    let r = x.1 in
    let token = c.part_of.ensures ∙ r.token-is in
    let are = c.put_options-k.ensures x.0.options (payload_bytes x.0.payload) r.options-are in
    omega (arith, c.requires.message_in_bounds, ap length token, c.put_closed-k.ensures.upper_bound, c.put_closed-k.auto.out, are.1, c.put_options-k.auto.out)

pub put_closed-requires : goal.put_closed-requires
put_closed-requires c =
    let x = read-tells c.args.message.now c.args.packet c.requires.message_value in
    let r = x.1 in
    let token = c.part_of.ensures ∙ r.token-is in
    let are = c.put_options-k.ensures x.0.options (payload_bytes x.0.payload) r.options-are in
    let payload = c.part_of-2.ensures ∙ r.payload-is in
    omega (
      arith,
      c.requires.message_in_bounds,
      ap length token,
      c.put_closed-k.ensures.upper_bound,
      c.put_closed-k.auto.out,
      are.1,
      c.put_options-k.auto.out,
      c.put_byte-k.ensures.to,
      c.put_byte-k.auto.out,
      ap length payload,
    )

pub returns : goal.returns
returns c =
    let x = read-tells c.args.message.now c.args.packet c.requires.message_value in
    let r = x.1 in
    let token = c.part_of.ensures ∙ r.token-is in
    let are = c.put_options-k.ensures x.0.options (payload_bytes x.0.payload) r.options-are in
    let payload = c.part_of-2.ensures ∙ r.payload-is in
    let first = put_as c.put_closed-k.ensures.put (ap (λ (b : List ℕ). shown b ++ (32 ∷ [])) token) in
    let last = put_as c.put_closed.ensures.put (ap (λ (b : List ℕ). shown b ++ (10 ∷ [])) payload) in
    let all = put_as (put_then first (put_then are.0 (put_then c.put_byte-k.ensures last))) (parts_are x.0) in
    record {
      put = λ n e. let same : x.0 ≡ n = cc (sym r.means-it ∙ e) in put_as all (ap parts_text same);
      upper_bound = omega (
        arith,
        ap length token,
        are.1,
        ap length payload,
        c.put_closed-k.ensures.upper_bound,
        c.put_byte-k.ensures.to,
        c.put_closed.ensures.upper_bound,
      );
    }
