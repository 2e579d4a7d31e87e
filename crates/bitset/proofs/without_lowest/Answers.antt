-- Taking 1 away turns the least member's digit and those below it.
use Rattle.bitset.proofs.Laws.{without_lowest_lem}
use Rattle.bitset.proofs.without_lowest.Goals as goal

pub returns : goal.returns
returns c = without_lowest_lem c.args.s c.requires c.ranges.s.fits
