-- None of the pieces that were passed is free and has the label.
use Rattle.canonize.specs.Label.{label}
use Rattle.memoize.specs.Inner.Stored.{label_at}
use Rattle.memoize.proofs.Keys.{Passed}
use Rattle.memoize.proofs.pick.Given as goal

abbrev pub invariant-loop-j : goal.invariant-loop-j
invariant-loop-j l = Passed (label_at l.molecule.bytes.now l.memo l.base) l.used (label l.molecule.bytes.now l.x.set) l.j
