use Rattle.std.proofs.Common.{length}
use Rattle.option_reader.proofs.+take_options.Given as goal

-- The rest gets shorter from call to call.
abbrev pub decreases-take_options : goal.decreases-take_options
decreases-take_options l = length l.rest.now
