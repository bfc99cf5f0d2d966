use Rattle.std.proofs.Common.{arith, sym}
use lib.Seq.{length-take-le}
use Rattle.message_runs.proofs.print_start.Goals as goal

pub slice_bounds-print_hex-end : goal.slice_bounds-print_hex-end
slice_bounds-print_hex-end c = sym (length-take-le 32 c.args.bytes.now (omega arith))

pub print_hex-requires-2 : goal.print_hex-requires-2
print_hex-requires-2 c = omega (arith, length-take-le 32 c.args.bytes.now (omega arith))
