-- best is the least of the members that the loop has passed.
use Rattle.std.proofs.Common.{◌<◌}
use Rattle.bitset.specs.Bits.{Sub, diff}
use Rattle.canonize.specs.Inner.Slate.{slot}
use Rattle.canonize.specs.Inner.Places.{Least}
use Rattle.canonize.proofs.strings.least.Given as goal

abbrev pub invariant-loop-i : goal.invariant-loop-i
invariant-loop-i l = record { within : l.best < 64; left : Sub l.i-iterator.rest l.set; least : Least (slot l.slate) (diff l.set l.i-iterator.rest) l.best }
