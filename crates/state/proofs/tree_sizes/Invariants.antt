-- What the components that were met have, with those of what is left, is what all have.
use Rattle.bitset.specs.Bits.{size}
use Rattle.state.proofs.Trees.{Met}
use Rattle.state.proofs.tree_sizes.Given as goal

abbrev pub invariant-loop-rest : goal.invariant-loop-rest
invariant-loop-rest l = Met l.touch l.s l.rest l.index l.largest

abbrev pub decreases-loop-rest : goal.decreases-loop-rest
decreases-loop-rest l = size l.rest
