-- What is added, and the big components of what is left, are all of them.
use Rattle.bitset.specs.Bits.{size}
use Rattle.state.specs.Inner.Views.{sets_of}
use Rattle.state.proofs.Pieces.{Pushing}
use Rattle.state.proofs.push_big.Given as goal

abbrev pub invariant-loop-rest : goal.invariant-loop-rest
invariant-loop-rest g l = Pushing l.touch l.s g.row.N (sets_of l.fn.out) (sets_of l.out) l.rest

abbrev pub decreases-loop-rest : goal.decreases-loop-rest
decreases-loop-rest g l = size l.rest
