-- What is left of the pieces passed is in the list.
use Rattle.bitset.specs.Bits.{size}
use Rattle.state.specs.Inner.Views.{sets_of}
use Rattle.state.proofs.Pieces.{Written, left}
use Rattle.state.proofs.keep.Given as goal

abbrev pub invariant-loop-p : goal.invariant-loop-p
invariant-loop-p g l = Written (left l.touch l.kept) size 0 g.row.N l.pieces (sets_of l.out) l.p-index
