-- The words at its two ends are the bonds there.
use Rattle.molecule.specs.Touch.{touching}
use Rattle.molecule.proofs.Accepted.{end_few}
use Rattle.molecule.proofs.Words.{atoms_at}
use Rattle.molecule.proofs.graph.edge_neighbors.Goals as goal

pub returns : goal.returns
unfolding touching
returns c =
    let r = c.args.bytes.now in
    let w = end_few r c.args.i c.requires.0 c.requires.2 in
    rw (c.difference.ensures, c.union.ensures, c.single.ensures, c.requires.1, c.ends-u.ensures.0, c.ends-u.ensures.1, atoms_at r _ w.0, atoms_at r _ w.1)
