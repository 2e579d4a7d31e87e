-- The rounds so far are those of the label, on the slate.
use Rattle.bitset.specs.Bits.{size}
use Rattle.canonize.proofs.Labelling.{OnSlate}
use Rattle.canonize.proofs.slate.label_into.Given as goal

abbrev pub invariant-loop-centre : goal.invariant-loop-centre
invariant-loop-centre l = OnSlate l.molecule.bytes.now l.x l.left l.centre l.initial.slate l.slate

abbrev pub decreases-loop-centre : goal.decreases-loop-centre
decreases-loop-centre l = size l.left
