-- The numbers left fall, since the next begins after the match.
use Rattle.std.proofs.Common.{arith, rules}
use Rattle.branch.proofs.removals.RemovalsIterator.next.Goals as goal

pub overflow_add-self : goal.overflow_add-self
overflow_add-self c = omega (arith, c.in_ok-m.ensures.within.2)

pub returns-clause-goes : goal.returns-clause-goes
returns-clause-goes c = let w = c.in_ok-m.ensures.within in record { on = λ f. (search rules, search rules, omega (arith, w.0, w.1)); keeps = search rules; rests = λ f. search rules }
