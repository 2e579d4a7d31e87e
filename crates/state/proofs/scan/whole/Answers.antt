-- The fold joins the pieces to the empty set.
use Rattle.std.proofs.Common.{rules}
use Rattle.state.proofs.Scanning.{whole_is}
use Rattle.state.proofs.scan.whole.Goals as goal

pub returns : goal.returns
returns c = rw whole_is (search rules)
