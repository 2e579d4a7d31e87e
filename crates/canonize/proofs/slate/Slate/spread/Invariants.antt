-- h is small enough for a turn.
use Rattle.std.proofs.Common.{◌<◌}
use Rattle.canonize.proofs.slate.Slate.spread.Given as goal

abbrev pub invariant-loop-b : goal.invariant-loop-b
invariant-loop-b l = l.h < 1099511627776
