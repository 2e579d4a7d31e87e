-- An accepted record has right counts and ends.
use Rattle.molecule.proofs.Accepted.{accepted_formed}
use Rattle.molecule.proofs.tree.Molecule.of.Goals as goal

pub bonds_at-at-requires : goal.bonds_at-at-requires
bonds_at-at-requires c = accepted_formed c.args.bytes.now c.requires

pub touching_from-touch-requires : goal.touching_from-touch-requires
touching_from-touch-requires c = (accepted_formed c.args.bytes.now c.requires, c.bonds_at-at.ensures)
