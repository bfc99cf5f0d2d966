use Rattle.line_runner.proofs.Leaving.{from_start, leaves-called}
use Rattle.line_runner.proofs.run.Goals as goal

pub returns : goal.returns
returns c =
    leaves-called _ _ _ _ (from_start _ c.memory_of-u.ensures.0) (from_start _ c.memory_of-v.ensures.0) _ _ _ _
    c.requires.lent.upload c.requires.lent.response c.run_line.auto.upload c.run_line.auto.response c.run_line.ensures
