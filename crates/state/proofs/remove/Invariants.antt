-- What the pieces passed fall into is in the list.
use Rattle.state.specs.Inner.Pieces.{fallen}
use Rattle.state.specs.Inner.Views.{sets_of}
use Rattle.state.proofs.Pieces.{Written, room}
use Rattle.state.proofs.remove.Given as goal

abbrev pub invariant-loop-p : goal.invariant-loop-p
invariant-loop-p g l = Written (fallen l.touch l.struck) (room l.struck) 2 g.row.N l.pieces (sets_of l.out) l.p-index
