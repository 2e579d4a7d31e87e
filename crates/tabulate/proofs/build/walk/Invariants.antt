-- Parts holds the table of the sizes below this one.
use Rattle.std.proofs.Common.{◌-◌}
use Rattle.tabulate.proofs.Building.{Walking}
use Rattle.tabulate.proofs.build.walk.Given as goal

abbrev pub invariant-loop-from : goal.invariant-loop-from
invariant-loop-from l = Walking l.molecule.bytes.now l.parts l.p l.size l.from l.to l.total

abbrev pub decreases-loop-from : goal.decreases-loop-from
decreases-loop-from l = 66 - l.size
