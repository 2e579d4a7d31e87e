-- What is left of the chain holds x where the candidates do.
use Rattle.std.proofs.Common.{List, ℕ}
use Rattle.enumerate.specs.Inner.Bucketed.{Bucketed}
use Rattle.enumerate.proofs.Chains.{Walking}
use Rattle.enumerate.proofs.found.known.Given as goal

abbrev pub invariant-loop-k : goal.invariant-loop-k
invariant-loop-k l = (list : List ℕ) → Bucketed l.parts l.p list → Walking list l.p l.x l.k

abbrev pub decreases-loop-k : goal.decreases-loop-k
decreases-loop-k l = l.k
