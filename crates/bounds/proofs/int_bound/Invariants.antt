-- The largest so far, or of the terms left, is the largest.
use Rattle.bounds.proofs.Counting.{Reached}
use Rattle.bounds.proofs.int_bound.Given as goal

abbrev pub invariant-loop-t : goal.invariant-loop-t
invariant-loop-t l = Reached l.pieces l.largest l.t l.best
