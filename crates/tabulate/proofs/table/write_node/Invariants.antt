-- What is written, and the matches with the nodes below y, are all.
use Rattle.matches.specs.Inner.Descending.{with_each}
use Rattle.matches.specs.Inner.Written.{start_in, below_in}
use Rattle.tabulate.proofs.Writing.{Writing, left_of}
use Rattle.tabulate.proofs.table.write_node.Given as goal

abbrev pub invariant-loop-y : goal.invariant-loop-y
invariant-loop-y l =
    Writing l.parts (with_each l.x (below_in l.parts l.p l.x)) (left_of l.parts l.x (start_in l.parts l.p l.x) l.y) l.m l.k l.initial.pairs l.pairs
