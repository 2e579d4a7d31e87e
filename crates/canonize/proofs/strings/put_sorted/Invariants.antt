-- The strings that are written, and those of the rest, are all.
use Rattle.bitset.specs.Bits.{size}
use Rattle.canonize.proofs.Joining.{Partly}
use Rattle.canonize.proofs.strings.put_sorted.Given as goal

abbrev pub invariant-loop-rest : goal.invariant-loop-rest
invariant-loop-rest l = Partly l.set l.initial.slate l.place l.slate l.next l.rest

abbrev pub decreases-loop-rest : goal.decreases-loop-rest
decreases-loop-rest l = size l.rest
