use Rattle.line_runner.proofs.Leaving.{leaves-as, leaves-unread, long-line, script-line, replay-line}
use Rattle.line_runner.proofs.run_any.Goals as goal

pub returns-then-line-gt-LONGEST : goal.returns-then-line-gt-LONGEST
returns-then-line-gt-LONGEST c =
    leaves-as (long-line _ _ _ _ _ c.if-line-gt-LONGEST.true)
    (leaves-unread _ _ _ _ c.unread.ensures.state_value c.unread.ensures.put c.unread.ensures.at_bound c.unread.ensures.written_value)

pub returns-then-replay : goal.returns-then-replay
returns-then-replay c = leaves-as (replay-line _ _ _ _ _ c.if-line-gt-LONGEST.false c.if-replay.true) c.run_control.ensures

pub returns : goal.returns
returns c = leaves-as (script-line _ _ _ _ _ c.if-line-gt-LONGEST.false c.if-replay.false) c.run.ensures
