use Rattle.image_rows.proofs.Turns.{row_put}
use Rattle.image_rows.proofs.put_row.Goals as goal

pub returns : goal.returns
returns c =
    row_put _ _ _ _ _ c.from.ensures c.from-2.ensures c.from-3.ensures c.put-to.ensures c.put_numbers-to.ensures.0 c.put_key.ensures.0 c.put_key.ensures.1
