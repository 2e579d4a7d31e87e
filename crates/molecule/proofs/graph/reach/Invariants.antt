-- The part after so many rounds is the bonds that as many steps reach; the measure is how many bonds have not been looked at.
use Rattle.std.proofs.Common.{get_or, ◌-◌}
use Rattle.bitset.specs.Bits.{size, diff}
use Rattle.molecule.specs.Inner.Growth.{ByRounds}
use Rattle.molecule.proofs.graph.reach.Given as goal

abbrev pub invariant-loop-last : goal.invariant-loop-last
invariant-loop-last l = ByRounds (λ i. get_or l.touch i 0) l.s l.c l.part l.last

abbrev pub decreases-loop-last : goal.decreases-loop-last
decreases-loop-last l = 64 - size (diff l.part l.last)
