-- A match whose bonds are not all in pieces is not removable, else both fragments are looked at.
use Rattle.std.proofs.Common.{◌∙◌, sym}
use Rattle.state.proofs.Scanning.{scan_outside, scan_first}
use Rattle.state.proofs.scan.Owners.is_removable.Goals as goal
use Rattle.state.proofs.scan.Owners.is_removable.Goals.{then-is_subset, else-is_subset}

pub returns-else-is_inside : goal.returns-else-is_inside
returns-else-is_inside c =
    c.if-is_inside.false ∙ elim c.if-is_subset.branch [
      | then-is_subset w ↦ scan_first c.args.row.now c.args.self.now.pieces.now w.is_inside.ensures (sym w.value-is ∙ c.if-is_inside.false)
      | else-is_subset w ↦ scan_outside c.args.row.now c.args.self.now.pieces.now c.requires c.args.self.now.whole c.is_subset.ensures w.if-is_subset.false
    ]
