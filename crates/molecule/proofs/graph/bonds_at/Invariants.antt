-- After i turns each atom has those of the first i bonds that are at it.
use Rattle.molecule.proofs.Words.{AtomsUpTo}
use Rattle.molecule.proofs.graph.bonds_at.Given as goal

abbrev pub invariant-loop-i : goal.invariant-loop-i
invariant-loop-i l = AtomsUpTo l.bytes l.i l.at
