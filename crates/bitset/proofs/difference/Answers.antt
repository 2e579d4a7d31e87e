-- The members outside t, by the complement of t.
use Rattle.bitset.proofs.Laws.{and_not}
use Rattle.bitset.proofs.difference.Goals as goal

pub returns : goal.returns
returns c = and_not 64 c.args.s c.args.t c.ranges.s.fits c.ranges.t.fits
