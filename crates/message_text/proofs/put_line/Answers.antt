use Rattle.std.proofs.Common.{◌≡◌, ap, sym, ◌∙◌, List, ℕ, arith}
use Rattle.std.specs.Prelude.{Some, None, Ok}
use Rattle.pieces.proofs.Puts.{put_as, put-none}
use Rattle.message_format.specs.Format.{meaning_of}
use Rattle.message_text.specs.Text.{unreadable_text, meaning_text}
use Rattle.message_text.proofs.Lines.{shown-is}
use Rattle.message_text.proofs.put_line.Goals as goal

pub slice_bounds-put_message-end : goal.slice_bounds-put_message-end
slice_bounds-put_message-end c =
    let inner = rw c.in-Ok-Some.is at c.in-Ok-Some.field-0-is in
    let is : c.read_line-hex.result ≡ Ok (Some c.in-Ok-Some.n) = c.in-Ok-Some.is ∙ ap Ok inner in
    omega (arith, (c.read_line-hex.ensures.filled _ is).1)

pub returns-in-Ok-None-clause-put : goal.returns-in-Ok-None-clause-put
returns-in-Ok-None-clause-put c =
    let inner = rw c.in-Ok-None.is at c.in-Ok-None.field-0-is in
    let said : c.read_line-hex.result ≡ Ok None = c.in-Ok-None.is ∙ ap Ok inner in
    put_as (put-none _ _ (omega (arith, c.requires.at_in_bounds))) (shown-is c.args.number _ _ (sym said ∙ c.read_line-hex.ensures.value))

pub returns-in-Ok-Some-clause-put : goal.returns-in-Ok-Some-clause-put
returns-in-Ok-Some-clause-put c =
    let inner = rw c.in-Ok-Some.is at c.in-Ok-Some.field-0-is in
    let said : c.read_line-hex.result ≡ Ok (Some c.in-Ok-Some.n) = c.in-Ok-Some.is ∙ ap Ok inner in
    let lent = (c.read_line-hex.ensures.filled _ said).2 in
    put_as c.put_message-end.ensures.put
    (ap (λ (b : List ℕ). meaning_text c.args.number (meaning_of b)) lent ∙ shown-is c.args.number _ _ (sym said ∙ c.read_line-hex.ensures.value))

pub returns-in-Err-clause-put : goal.returns-in-Err-clause-put
unfolding unreadable_text
returns-in-Err-clause-put c =
    put_as c.put_verdict-end.ensures.put (shown-is c.args.number _ _ (sym c.in-Err.is ∙ c.read_line-hex.ensures.value))
