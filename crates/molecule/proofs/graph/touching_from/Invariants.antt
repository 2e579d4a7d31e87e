-- After i turns the first i bonds have those that touch them.
use Rattle.molecule.proofs.Words.{BondsUpTo}
use Rattle.molecule.proofs.graph.touching_from.Given as goal

abbrev pub invariant-loop-i : goal.invariant-loop-i
invariant-loop-i l = BondsUpTo l.bytes l.i l.touch
