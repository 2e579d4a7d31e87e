-- What is written, and the matches of the nodes below x, are all.
use Rattle.matches.specs.Inner.Written.{matches_in}
use Rattle.tabulate.proofs.Writing.{Writing}
use Rattle.tabulate.proofs.table.write.Given as goal

abbrev pub invariant-loop-x : goal.invariant-loop-x
invariant-loop-x l = Writing l.parts (matches_in l.parts l.p l.count) (matches_in l.parts l.p l.x) 0 l.m l.initial.pairs l.pairs
