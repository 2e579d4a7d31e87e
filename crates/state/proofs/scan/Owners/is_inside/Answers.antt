-- A piece that holds h owns its lowest bond.
use Rattle.std.proofs.Common.{◌∙◌}
use Rattle.state.proofs.Scanning.{owner_inside}
use Rattle.state.proofs.scan.Owners.is_inside.Goals as goal

pub returns : goal.returns
returns c = c.is_subset.ensures ∙ owner_inside c.args.self.now.pieces.now c.args.self.now.own c.args.h c.lowest-b.result c.args.self.now.owning c.lowest-b.ensures.within c.lowest-b.ensures.member
