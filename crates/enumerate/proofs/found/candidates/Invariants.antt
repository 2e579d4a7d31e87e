-- The candidates so far, with those that the parents left give, are all.
use Rattle.std.proofs.Common.{get_or}
use Rattle.enumerate.proofs.Extending.{Collecting}
use Rattle.enumerate.proofs.found.candidates.Given as goal

abbrev pub invariant-loop-x : goal.invariant-loop-x
invariant-loop-x l = Collecting (λ i. get_or l.touch i 0) l.fn.parts l.parts l.p l.from l.to l.x l.count
