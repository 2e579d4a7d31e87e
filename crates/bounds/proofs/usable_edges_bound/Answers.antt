-- What all save is less the cost of the first fragment.
use Rattle.std.proofs.Common.{rules}
use Rattle.bounds.proofs.Counting.{usable_is}
use Rattle.bounds.proofs.usable_edges_bound.Goals as goal

pub returns : goal.returns
returns c = rw usable_is (search rules)
