-- The digits of one fewer.
use Rattle.std.proofs.Common.{arith}
use Rattle.bounds.proofs.Numbers.{log_digits}
use Rattle.bounds.proofs.ceil_log2.Goals as goal

pub returns : goal.returns
returns c = rw c.saturating_sub.ensures (log_digits c.args.t (omega arith))
