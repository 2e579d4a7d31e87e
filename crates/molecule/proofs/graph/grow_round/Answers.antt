-- The bonds that it does not look at add nothing.
use Rattle.molecule.proofs.Rounds.{frontier_round}
use Rattle.molecule.proofs.graph.grow_round.Goals as goal

pub returns : goal.returns
returns c = rw (c.union.ensures, c.common.ensures, c.next_to.ensures) (frontier_round _ c.args.s c.args.part c.args.last c.requires)
