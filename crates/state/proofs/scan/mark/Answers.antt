-- The lowest bond of those left is passed.
use Rattle.std.proofs.Common.{arith}
use Rattle.state.proofs.Scanning.{marking_next, marking_done}
use Rattle.state.proofs.scan.mark.Goals as goal

pub loop-b-preserved : goal.loop-b-preserved
loop-b-preserved c = marking_next (omega arith) c.loop-b.invariant c.in-Some.ensures.steps.2 c.in-Some.ensures.steps.3

pub returns : goal.returns
returns c = marking_done c.loop-b.invariant c.in-None.ensures.steps.0
