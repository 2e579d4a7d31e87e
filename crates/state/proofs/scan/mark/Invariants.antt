-- All bonds of p but those left have it.
use Rattle.state.proofs.Scanning.{Marking}
use Rattle.state.proofs.scan.mark.Given as goal

abbrev pub invariant-loop-b : goal.invariant-loop-b
invariant-loop-b l = Marking l.fn.own l.own l.p l.b-iterator.rest
