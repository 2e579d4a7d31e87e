-- As many members as digits that are 1.
use Rattle.std.proofs.Common.{sym}
use Rattle.bitset.proofs.Laws.{size_ones}
use Rattle.bitset.proofs.size.Goals as goal

pub returns : goal.returns
returns c = sym (size_ones c.args.s)
