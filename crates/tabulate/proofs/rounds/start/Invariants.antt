-- So many single bonds are nodes.
use Rattle.tabulate.proofs.Stepping.{Laid}
use Rattle.tabulate.proofs.rounds.start.Given as goal

abbrev pub invariant-loop-i : goal.invariant-loop-i
invariant-loop-i l = Laid l.initial.parts l.parts l.p l.i
