-- The pieces before this one have their sets and hashes.
use Rattle.desk.specs.Inner.Cached.{Cached}
use Rattle.memoize.proofs.Standing.{Standing}
use Rattle.memoize.proofs.stand_all.Given as goal

abbrev pub invariant-loop-i : goal.invariant-loop-i
invariant-loop-i l = record { cached : Cached l.molecule.bytes.now l.desk; standing : Standing l.molecule.bytes.now l.pieces l.new l.total l.i }
