-- All labels match where what is left of the new entry's matches what is not used of the other's.
use Rattle.memoize.specs.Inner.Stored.{label_at, labels}
use Rattle.memoize.proofs.Keys.{Matching}
use Rattle.memoize.proofs.same_pieces.Given as goal

abbrev pub invariant-loop-i : goal.invariant-loop-i
invariant-loop-i l =
    Matching (labels l.molecule.bytes.now l.new 0 l.count) (labels l.molecule.bytes.now l.memo l.base l.count) (label_at l.molecule.bytes.now l.memo l.base)
    l.count l.i l.used
