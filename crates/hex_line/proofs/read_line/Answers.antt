use mathlib.Core.Path.{sym, ap, ◌∙◌}
use Rattle.script_fields.specs.Fields.{pairs_of}
use Rattle.hex_line.specs.Line.{digits_say}
use Rattle.hex_line.proofs.Verdicts.{long-line, Ends, empty-line, comment-line, too_many, digits-line, line-bytes, text-lent}
use Rattle.hex_line.proofs.read_line.Goals as goal
use Rattle.hex_line.proofs.read_line.Goals.{then-end-start-via-then-end-start, then-end-start-via-else-end-start+then-line-start-eq35}

pub returns-then-line-gt-LONGEST-clause-value : goal.returns-then-line-gt-LONGEST-clause-value
returns-then-line-gt-LONGEST-clause-value c = long-line _ c.if-line-gt-LONGEST.true

pub returns-then-end-start-clause-value : goal.returns-then-end-start-clause-value
returns-then-end-start-clause-value c =
    let x : Ends c.args.line.now c.start_of-start.result c.end_of-end.result =
    record {
      short = c.if-line-gt-LONGEST.false;
      starts = sym c.start_of-start.ensures;
      ends = sym c.end_of-end.ensures.0;
      within = c.end_of-end.ensures.1;
    } in
    elim c.then-end-start.branch [
      | then-end-start-via-then-end-start w ↦ empty-line _ _ _ x w.if-end-start.true
      | then-end-start-via-else-end-start+then-line-start-eq35 w ↦ comment-line _ _ _ x w.if-end-start.false w.if-line-start-eq35.true
    ]

pub returns-then-n-gt-MOST_DIGITS-clause-value : goal.returns-then-n-gt-MOST_DIGITS-clause-value
returns-then-n-gt-MOST_DIGITS-clause-value c =
    let x : Ends c.args.line.now c.start_of-start.result c.end_of-end.result =
    record {
      short = c.if-line-gt-LONGEST.false;
      starts = sym c.start_of-start.ensures;
      ends = sym c.end_of-end.ensures.0;
      within = c.end_of-end.ensures.1;
    } in
    too_many _ _ _ x c.if-end-start.false c.if-line-start-eq35.false c.if-n-gt-MOST_DIGITS.true

pub returns-clause-value : goal.returns-clause-value
returns-clause-value c =
    let x : Ends c.args.line.now c.start_of-start.result c.end_of-end.result =
    record {
      short = c.if-line-gt-LONGEST.false;
      starts = sym c.start_of-start.ensures;
      ends = sym c.end_of-end.ensures.0;
      within = c.end_of-end.ensures.1;
    } in
    let lent = text-lent _ _ _ x c.if-end-start.false _ _ c.put_lower.ensures in
    c.read_digits.ensures.value ∙ ap (digits_say _) lent ∙
    digits-line _ _ _ x c.if-end-start.false c.if-line-start-eq35.false c.if-n-gt-MOST_DIGITS.false

pub returns-clause-filled : goal.returns-clause-filled
returns-clause-filled c n q =
    let x : Ends c.args.line.now c.start_of-start.result c.end_of-end.result =
    record {
      short = c.if-line-gt-LONGEST.false;
      starts = sym c.start_of-start.ensures;
      ends = sym c.end_of-end.ensures.0;
      within = c.end_of-end.ensures.1;
    } in
    let lent = text-lent _ _ _ x c.if-end-start.false _ _ c.put_lower.ensures in
    let f = c.read_digits.ensures.filled n q in
    (f.0, f.1, f.2 ∙ ap pairs_of lent ∙ line-bytes _ _ _ x)
