-- The removals before this one are written.
use Rattle.memoize.specs.Inner.Stored.{Filled}
use Rattle.memoize.proofs.put_removals.Given as goal

abbrev pub invariant-loop-i : goal.invariant-loop-i
invariant-loop-i l = Filled l.initial.new l.new l.k l.i l.removals
