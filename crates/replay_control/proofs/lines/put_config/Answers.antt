use Rattle.pieces.proofs.Puts.{put_then}
use Rattle.replay_control.specs.Control.{config_text}
use borrow.Author.Rules.{rules}
use Rattle.replay_control.proofs.lines.put_config.Goals as goal

pub returns : goal.returns
unfolding config_text
returns c = record { put = put_then c.put_decimal-k.ensures.put c.put.ensures; upper_bound = search rules }
