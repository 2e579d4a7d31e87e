-- after has those of the members that the loop has passed.
use Rattle.bitset.specs.Bits.{Sub, diff}
use Rattle.canonize.specs.Label.{own}
use Rattle.canonize.specs.Inner.Slate.{slot}
use Rattle.canonize.specs.Inner.Places.{After}
use Rattle.canonize.proofs.strings.after_own.Given as goal

abbrev pub invariant-loop-i : goal.invariant-loop-i
invariant-loop-i l = record { left : Sub l.i-iterator.rest l.set; after : After (slot l.slate) (diff l.set l.i-iterator.rest) (own l.kind.element l.kind.class) l.after }
