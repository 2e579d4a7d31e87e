-- The first of the sizes left is the first of all.
use Rattle.std.proofs.Common.{get_or}
use Rattle.bounds.proofs.Counting.{Leaving}
use Rattle.bounds.proofs.least_size.Given as goal

abbrev pub invariant-loop-k : goal.invariant-loop-k
invariant-loop-k l = Leaving (λ k. get_or l.masks k 0) l.pieces l.index l.best l.largest l.k
