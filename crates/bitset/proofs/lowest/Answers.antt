-- The least member is where the last zeros end.
use Rattle.bitset.proofs.Laws.{lowest}
use Rattle.bitset.proofs.lowest.Goals as goal

pub returns : goal.returns
returns c = lowest c.args.s c.requires c.ranges.s.fits
