-- The round so far: the bonds of left that are not in rest are passed.
use Rattle.canonize.proofs.Rounding.{Rounding}
use Rattle.canonize.proofs.peel.round.Given as goal

abbrev pub invariant-loop-i : goal.invariant-loop-i
invariant-loop-i l = Rounding l.molecule.bytes.now l.s l.left l.initial.slate l.i-iterator.rest l.taken l.slate
