-- All single bonds are nodes.
use Rattle.std.proofs.Common.{arith}
use Rattle.tabulate.proofs.Stepping.{laid_held}
use Rattle.tabulate.proofs.rounds.start.Goals as goal

pub returns : goal.returns
returns c r e =
    let q = c.requires in
    laid_held c.loop-i.invariant (omega arith) (omega arith) q.3 q.2
